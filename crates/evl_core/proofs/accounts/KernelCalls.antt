-- All that the kernel's contracts say of a call, and of making room for one.
use Rattle.std.proofs.Common.{◌≡◌, ◌⊎◌, ⊎_elim, ◌↔◌, ◌+◌, ◌<◌, ◌≤◌, ℕ, List, Bool, true, false, length, Result, Ok, Err, IfOk, IfErr, refl, sym, ap, subst, arith}
use Rattle.evl_base.specs.declared.call.Call.{Call}
use Rattle.evl_base.specs.declared.play.Play.{Play}
use Rattle.evl_base.specs.declared.refusal.Refusal.{Refusal}
use Rattle.evl_base.specs.declared.refusal.Refusal.TheVariants.{HistoryFull, NoMemory}
use Rattle.evl_base.specs.declared.reply.Reply.{Reply}
use Rattle.evl_kernel.specs.histories.Histories.{History, IsLegal}
use Rattle.evl_kernel.specs.state.Callbacks.{BringsNone, handlers_in}
use Rattle.evl_kernel.specs.state.KernelViews.{Adds, IsKernelAnswer, KernelView, makes_entry}
use Rattle.evl_core.specs.accounts.KernelCalls.{Applied, FindsNoRoom, IsRoomier, Reserves}

module _ {C : Type 0} where
  -- what the kernel's contract says of a call
  pub applies : (k : KernelView C) (t : ℕ) (c : Call) (r : Result Reply Refusal) (k' : KernelView C)
      → (makes_entry r ≡ true → (plays : List Play) × Adds k.history t c r plays k'.history) → (makes_entry r ≡ false → k'.history ≡ k.history)
      → ((r ≡ Err HistoryFull) ↔ (length k.history.entries ≡ k.limit)) → (r ≡ Err NoMemory → k.room ≡ 0) → k.room ≤ k'.room + 1 → IsKernelAnswer r
      → BringsNone k.callbacks k'.callbacks → handlers_in k'.callbacks.bank ≡ handlers_in k.callbacks.bank → k'.limit ≡ k.limit → IsLegal k'.history → Applied k t c r k'
  applies k t c r k' entered refused full memory room answers brings handlers_are limit legal = record {
    entered = entered;
    refused = refused;
    full = full.0;
    filled = full.1;
    memory = memory;
    room = room;
    answers = answers;
    comes = record { board = board_stays (makes_entry r) refl; bank = bank_stays (makes_entry r) refl; brings = brings; handlers_are = handlers_are; limit = limit };
    legal = legal;
  }
    where
      board_stays : (b : Bool) → makes_entry r ≡ b → k'.history.board ≡ k.history.board
      board_stays true is = (entered is).1.extends.board
      board_stays false is = ap (λ (h : History). h.board) (refused is)

      bank_stays : (b : Bool) → makes_entry r ≡ b → k'.history.bank ≡ k.history.bank
      bank_stays true is = (entered is).1.extends.bank
      bank_stays false is = ap (λ (h : History). h.bank) (refused is)

  -- what the kernel's contract says of a reservation
  pub reserves : (k : KernelView C) (r : Result (Unit {0}) Refusal) (k' : KernelView C)
      → IfOk r (λ _. 1 ≤ k'.room) → ((r ≡ Err HistoryFull) ↔ (k.limit < length k.history.entries + 1)) → IfErr r (λ e. (e ≡ HistoryFull) ⊎ (e ≡ NoMemory))
      → (r ≡ Err NoMemory → k.room < 1) → length k.history.entries ≤ k.limit → IsRoomier k k' → Reserves k r k'
  reserves k (Ok done) k' room full refusals memory within same = record {
    same = same;
    made = (room, λ at. let no : Ok done ≡ Err HistoryFull = full.1 (omega (arith, at)) in absurd (cc));
    refused = tt;
  }
  reserves k (Err refusal) k' room full refusals memory within same = record {
    same = same;
    made = tt;
    refused = ⊎_elim
        (λ (is : refusal ≡ HistoryFull). subst (FindsNoRoom k) (sym is) (let less = full.0 (ap Err is) in omega (arith, less, within)))
        (λ (is : refusal ≡ NoMemory). subst (FindsNoRoom k) (sym is) (let less = memory (ap Err is) in
        (omega (arith, less), λ at. let no : Err refusal ≡ Err HistoryFull = full.1 (omega (arith, at)) in absurd (cc)))) refusals;
  }
