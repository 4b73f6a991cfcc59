-- The effect of a run of a scenario's steps.
use Rattle.std.specs.Prelude.{◌≡◌, ℕ, List, [], ◌∷◌, ◌++◌}
use Rattle.std.specs.Option.{option_map_or}
use Rattle.evl_base.specs.declared.entry.Entry.{Entry}
use Rattle.evl_kernel.specs.state.KernelViews.{KernelView, entry_of}
use Rattle.evl_kernel.specs.state.States.{State}
use Rattle.evl_scenario.specs.declared.steps.Step.{Step}
use Rattle.evl_shell.specs.Moments.{moment}
use Rattle.evl_shell.specs.Runs.{Moment, Turn, turn}

-- ---- what steps leave

-- the entry of a step, where its turn makes one
abbrev pub entry_in : Step → Turn → List Entry
entry_in step t = option_map_or (λ number. entry_of step.who.0 step.call t.answer t.plays ∷ []) t.number []

-- the entries of steps from a moment on
abbrev pub entries_from : ℕ → Moment → List Step → List Entry
entries_from limit m [] = []
entries_from limit m (step ∷ rest) = entry_in step (turn limit m step) ++ entries_from limit (turn limit m step).after rest

-- the state that they lead to
abbrev pub state_from : ℕ → Moment → List Step → State
state_from limit m [] = m.state
state_from limit m (step ∷ rest) = state_from limit (turn limit m step).after rest

-- ---- a kernel

-- The kernel has made this step: it is where the step's turn leads, and has its entry, where there is one.
pub record Makes {C : Type 0} (old new : KernelView C) (step : Step) : Type 0 where
  pub limit : new.limit ≡ old.limit
  pub after : moment new ≡ (turn old.limit (moment old) step).after
  pub entries : new.history.entries ≡ old.history.entries ++ entry_in step (turn old.limit (moment old) step)
