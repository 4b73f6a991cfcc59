-- Facts about a machine that has made the steps that it was opened with.
use Rattle.std.proofs.Common.{arith, ◌≡◌, ◌≤◌, ◌↔◌, ◌∙◌, ◌&&◌, ℕ, zero, suc, Bool, true, false, nat_le, List, [], ◌∷◌, length, Result, Ok, Err, refl, sym, ap, subst}
use Rattle.std.proofs.lemmas.Bool.{leb-true}
use Rattle.evl_base.specs.Board.{board_fits}
use Rattle.evl_base.specs.Limits.{is_within as within}
use Rattle.evl_base.specs.declared.board.Board.{Board}
use Rattle.evl_base.specs.declared.entry.Entry.{Entry}
use Rattle.evl_base.specs.declared.refusal.Refusal.{Refusal}
use Rattle.evl_base.specs.declared.refusal.Refusal.TheVariants.{Range}
use Rattle.evl_kernel.specs.histories.Histories.{History}
use Rattle.evl_kernel.specs.state.KernelViews.{IsOpened, KernelView}
use Rattle.evl_kernel.specs.state.Limits.{callback_limit, history_limit}
use Rattle.evl_kernel.specs.state.Openings.{can_open}
use Rattle.evl_plans.specs.declared.planned.Planned.{Planned}
use Rattle.evl_shell.specs.Histories.{AreSound}
use Rattle.evl_shell.specs.Runs.{handlers_of}
use Rattle.lab_live.specs.Sessions.{IsDriven, KeepsWithin}

-- callbacks that keep their plans are sound, each by its type
pub sound_plans : (bank : List Planned) → AreSound (handlers_of (λ p. p.kinds.0) (λ p. p.plan) bank)
sound_plans [] k d less = absurd (omega arith)
sound_plans (p ∷ ps) zero d less = p.sound
sound_plans (p ∷ ps) (suc k) d less = sound_plans ps k d (omega arith)

-- so is a machine of a board and a limit that goes on from a kernel which was just made
pub is_driven : (board own : Board) (bank : List Planned) (limit : ℕ) (first : KernelView Planned) (now : History) → own ≡ board
    → IsOpened (λ p. p.kinds.0) (λ p. p.plan) own bank limit first → KeepsWithin first.limit first.history now
    → IsDriven (record { board = board; limit = limit; history = now })
is_driven board own bank limit first now same opened keeps = record {
  board = keeps.board ∙ opened.board_is ∙ same;
  within = subst (λ (n : ℕ). length now.entries ≤ n) opened.limit_is (keeps.within (omega (arith, ap (λ (es : List Entry). length es) opened.entries)));
  sound = subst AreSound (sym (keeps.bank ∙ opened.bank_is)) (sound_plans bank);
}

-- a kernel that was opened has few callbacks
second_of : (a b c : Bool) → ((a && b && c) ≡ false → ⊥) → b ≡ true
second_of true true c h = refl
second_of true false c h = absurd (h refl)
second_of false b c h = absurd (h refl)

pub few_open : {K : Type 0} (r : Result K Refusal) (k : K) (board : Board) (callbacks limit : ℕ) → r ≡ Ok k → ((r ≡ Err Range) ↔ (can_open board callbacks limit ≡ false))
    → callbacks ≤ 64
few_open r k board callbacks limit made range =
    leb-true callbacks 64
    (second_of (board_fits board) (nat_le callbacks callback_limit) (within 1 history_limit limit) (λ no. let refused = range.1 no in cc))
