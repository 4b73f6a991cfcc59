-- The effect of a call of the kernel while a thread has it, and of making room for one.
use Rattle.std.specs.Prelude.{◌≡◌, ◌≢◌, ◌⊎◌, ◌↔◌, ◌+◌, ◌<◌, ◌≤◌, ℕ, List, true, false, length, Result, Err, IfOk, IfErr, OnOk}
use Rattle.evl_base.specs.declared.call.Call.{Call}
use Rattle.evl_base.specs.declared.play.Play.{Play}
use Rattle.evl_base.specs.declared.refusal.Refusal.{Refusal}
use Rattle.evl_base.specs.declared.refusal.Refusal.TheVariants.{HistoryFull, NoMemory}
use Rattle.evl_base.specs.declared.reply.Reply.{Reply}
use Rattle.evl_kernel.specs.histories.Histories.{IsLegal}
use Rattle.evl_kernel.specs.state.KernelViews.{Adds, IsKernelAnswer, KernelView, makes_entry}
use Rattle.evl_core.specs.rule.Known.{ComesFrom}

-- rule: Calls on a held kernel take effect together at the give.
--   clauses: Held::{give, kernel, apply}
--   rows: close_machine; held_calls_stop_in_a_full_history; held_calls_stop_without_memory
-- a call of the kernel adds just its entry, or leaves the history: it is full, or no room was made for the call
pub record Applied {C : Type 0} (old : KernelView C) (thread : ℕ) (c : Call) (r : Result Reply Refusal) (new : KernelView C) : Type 0 where
  pub entered : makes_entry r ≡ true → (plays : List Play) × Adds old.history thread c r plays new.history
  pub refused : makes_entry r ≡ false → new.history ≡ old.history
  pub full : r ≡ Err HistoryFull → length old.history.entries ≡ old.limit
  pub filled : length old.history.entries ≡ old.limit → r ≡ Err HistoryFull
  pub memory : r ≡ Err NoMemory → old.room ≡ 0
  pub room : old.room ≤ new.room + 1
  pub answers : IsKernelAnswer r
  pub comes : ComesFrom old new
  pub legal : IsLegal new.history

module _ {C : Type 0} where
  -- why a call of the kernel makes no entry: the history is full, or it isn't, and no room was made
  abbrev pub FindsNoRoom : KernelView C → Refusal → Type 0
  FindsNoRoom k HistoryFull = length k.history.entries ≡ k.limit
  FindsNoRoom k NoMemory = (k.room ≡ 0) × (length k.history.entries ≢ k.limit)
  FindsNoRoom k refusal = ⊥

  -- the kernel is as it was, with no less room
  pub record IsRoomier (k k' : KernelView C) : Type 0 where
    pub history : k'.history ≡ k.history
    pub callbacks : k'.callbacks ≡ k.callbacks
    pub limit : k'.limit ≡ k.limit
    pub room : k.room ≤ k'.room

  -- room for one call was made, and the history isn't full, or it was refused
  pub record Reserves (k : KernelView C) (r : Result (Unit {0}) Refusal) (k' : KernelView C) : Type 0 where
    pub same : IsRoomier k k'
    pub made : IfOk r (λ _. (1 ≤ k'.room) × (length k.history.entries ≢ k.limit))
    pub refused : IfErr r (FindsNoRoom k)

  -- rule: A caller with the kernel can make room for calls of this take: `HistoryFull` exactly if the history has fewer
  --   places left, `NoMemory` only with less room. How much a later take finds no clause says.
  --   also: KernelCalls.Applied
  --   clauses: Held::reserve; HeldOf::reserve; KernelBox::reserve_for
  --   rows: calls_after_a_reserve
  -- room for so many calls was made, or it was refused: as the history has fewer places left, or for want of memory
  pub record ReservesFor (calls : ℕ) (k : KernelView C) (r : Result (Unit {0}) Refusal) (k' : KernelView C) : Type 0 where
    pub same : IsRoomier k k'
    pub made : OnOk r (calls ≤ k'.room)
    pub full : (r ≡ Err HistoryFull) ↔ (k.limit < length k.history.entries + calls)
    pub refused : IfErr r (λ refusal. (refusal ≡ HistoryFull) ⊎ (refusal ≡ NoMemory))
    pub memory : r ≡ Err NoMemory → k.room < calls
