-- Which thread lends a rank, thread by thread.
use Rattle.std.proofs.Common.{◌≡◌, ◌∙◌, ℕ, zero, suc, ◌+◌, ◌-◌, ◌<◌, ◌≤◌, ◌==◌, ◌||◌, true, false, Option, None, Some, if◌then◌else◌, refl, sym, ap, add-one, arith}
use Rattle.std.specs.Option.{option_map_or, option_or}
use Rattle.evl_base.proofs.Plain.{eqb-same}
use Rattle.evl_mutex.specs.Chains.{reaches}
use Rattle.evl_kernel.specs.state.States.{State}
use Rattle.lab_moments.specs.Standings.{lender_below, lends}

pub lender_none : (s : State) (thread rank : ℕ) → None ≡ lender_below s thread rank 0
unfolding lender_below
lender_none s thread rank = refl

pub lender_more : (s : State) (thread rank from : ℕ) → option_or (lender_below s thread rank from) (if lends s thread rank from then Some from else None) ≡ lender_below s thread rank (from + 1)
unfolding lender_below
lender_more s thread rank from = ap (λ (k : ℕ). lender_below s thread rank k) (sym (add-one from))

-- A walk of n steps, of which k were made: it is over where the next thread is the one, where there is none, or after the last step
pub walk-here : (next : ℕ → Option ℕ) (n k from mid to : ℕ) → k < n → next from ≡ Some mid → mid ≡ to → true ≡ reaches (n - k) next from to
walk-here next n k from mid to l e here =
    let left : n - k ≡ suc (n - (k + 1)) = omega arith in
    sym (ap (λ m. reaches m next from to) left ∙ ap (λ o. option_map_or (λ x. (x == to) || reaches (n - (k + 1)) next x to) o false) e
    ∙ ap (λ b. b || reaches (n - (k + 1)) next mid to) (ap (λ (x : ℕ). x == to) here ∙ eqb-same to))

pub walk-ends : (next : ℕ → Option ℕ) (m from to : ℕ) → next from ≡ None → false ≡ reaches m next from to
walk-ends next zero from to e = refl
walk-ends next (suc m) from to e = sym (ap (λ o. option_map_or (λ x. (x == to) || reaches m next x to) o false) e)

pub walk-over : (next : ℕ → Option ℕ) (n k from to : ℕ) → n ≤ k → false ≡ reaches (n - k) next from to
walk-over next n k from to l = let none : n - k ≡ 0 = omega arith in sym (ap (λ m. reaches m next from to) none)
