-- Callbacks that go back into their bank places.
use Rattle.std.specs.Prelude.{ℕ, ◌≡◌}
use Rattle.evl_kernel.specs.state.States.{State}
use Rattle.evl_kernel.specs.state.Places.{Place, IsAt}

-- the callback of this number is somewhere
abbrev pub IsSomewhere : State → ℕ → Type 0
IsSomewhere s number = (place : Place) × IsAt s number place

-- No callback is lost, and only the bank, the lines and the timers changed.
pub record ComesHome (old new : State) : Type 0 where
  pub none_is_lost : (number : ℕ) → IsSomewhere old number → IsSomewhere new number
  pub threads : new.threads ≡ old.threads
  pub elements : new.elements ≡ old.elements
  pub sched : new.sched ≡ old.sched
  pub waits : new.waits ≡ old.waits
  pub deadlines : new.clock.deadlines ≡ old.clock.deadlines
