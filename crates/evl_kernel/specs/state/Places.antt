-- The place of a callback of the bank.
use Rattle.std.specs.Prelude.{◌≡◌, ◌<◌, ℕ, true, length, Some, slice_get}
use Rattle.evl_base.specs.declared.stage.Stage.{Stage}
use Rattle.evl_pipeline.specs.Lines as lines
use Rattle.evl_clock.specs.declared.timer.Timer.{Timer}
use Rattle.evl_clock.specs.Clocks.{timer_at}
use Rattle.evl_kernel.specs.declared.bank.BankPlace.{BankPlace}
use Rattle.evl_kernel.specs.declared.bank.Numbered.{Numbered}
use Rattle.evl_kernel.specs.state.States.{State, Banked}
use Rattle.evl_kernel.specs.histories.Histories.{History, IsLegal}
use Rattle.evl_kernel.specs.state.Callbacks.{Whereabouts}

-- in its bank place, on a line of a stage, or in a timer
pub data Place : Type 0 where
  at_home : Place
  on_line : Stage → ℕ → Place
  in_timer : ℕ → Place

-- the callback of this number is there
abbrev pub IsAt : State → ℕ → Place → Type 0
IsAt s number at_home = (b : Banked) × (slice_get s.bank number ≡ Some b) × (b.home ≡ true)
IsAt s number (on_line stage line) = (at : lines.Installed ℕ) × (lines.installed_at s.lines stage line ≡ Some at) × (at.callback ≡ number)
IsAt s number (in_timer timer) = (at : Timer ℕ) × (timer_at s.clock timer ≡ Some at) × (at.callback ≡ number)

-- it is in one place, and in no other
pub record IsInOnePlace (there : Place → Type 0) : Type 0 where
  pub place : Place
  pub is : there place
  pub alone : (other : Place) → there other → other ≡ place

-- after each call
abbrev pub CallbacksAreInOnePlace : Type 0
CallbacksAreInOnePlace = (h : History) → IsLegal h → (number : ℕ) → number < length h.bank → IsInOnePlace (IsAt h.state number)

module _ {C : Type 0} where
  -- a callback itself is there, under this number
  abbrev pub StandsAt : Whereabouts C → ℕ → Place → Type 0
  StandsAt w number at_home = (place : BankPlace C) × (callback : C) × (slice_get w.bank number ≡ Some place) × (place.callback ≡ Some callback)
  StandsAt w number (on_line stage line) = (at : lines.Installed (Numbered C)) × (lines.installed_at w.lines stage line ≡ Some at) × (at.callback.number ≡ number)
  StandsAt w number (in_timer timer) = (at : Timer (Numbered C)) × (timer_at w.clock timer ≡ Some at) × (at.callback.number ≡ number)

  -- each number has one callback, which is in one place
  abbrev pub AreInOnePlace : Whereabouts C → Type 0
  AreInOnePlace w = (number : ℕ) → number < length w.bank → IsInOnePlace (StandsAt w number)
