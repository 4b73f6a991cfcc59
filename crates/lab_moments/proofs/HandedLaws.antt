-- Whom a mutex has been handed on to, thread by thread.
use Rattle.std.proofs.Common.{◌≡◌, ℕ, ◌+◌, None, Some, if◌then◌else◌, refl, sym, ap, add-one}
use Rattle.std.specs.Option.{option_or}
use Rattle.evl_kernel.specs.state.States.{State}
use Rattle.lab_moments.specs.Standings.{handed_below, is_handed}

pub handed_none : (s : State) (mutex : ℕ) → None ≡ handed_below s mutex 0
unfolding handed_below
handed_none s mutex = refl

pub handed_more : (s : State) (mutex thread : ℕ) → option_or (handed_below s mutex thread) (if is_handed s mutex thread then Some thread else None) ≡ handed_below s mutex (thread + 1)
unfolding handed_below
handed_more s mutex thread = ap (λ (k : ℕ). handed_below s mutex k) (sym (add-one thread))
