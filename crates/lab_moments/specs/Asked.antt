-- For which lines calls ask, and that what is pending is counted among these.
use Rattle.std.specs.Prelude.{ℕ, ◌≡◌, ◌+◌, min, max, List, [], ◌∷◌}
use Rattle.evl_base.specs.declared.call.Call.{Call}
use Rattle.evl_base.specs.declared.entry.Entry.{Entry}
use Rattle.evl_base.specs.declared.stage.Stage.{Stage}
use Rattle.evl_kernel.specs.calls.Families.{LineStep, request, Task, on_lines, task_of}
use Rattle.evl_kernel.specs.state.States.{State}
use Rattle.evl_pipeline.specs.Limits.{line_count}
use Rattle.evl_scenario.specs.declared.steps.Step.{Step}
use Rattle.lab_moments.specs.Standings.{pending_below, pending_count}

-- below which line the line of a request is; of another call 0
abbrev pub below_request : LineStep → ℕ
below_request (request line stage number tag) = min line_count (line + 1)
below_request _ = 0

abbrev pub below_task : Task → ℕ
below_task (on_lines step) = below_request step
below_task _ = 0

abbrev pub below_call : Call → ℕ
below_call call = below_task (task_of call)

-- the greatest of these
abbrev pub below_steps : List Step → ℕ
below_steps [] = 0
below_steps (step ∷ rest) = max (below_call step.call) (below_steps rest)

abbrev pub below_entries : List Entry → ℕ
below_entries [] = 0
below_entries (entry ∷ rest) = max (below_call entry.call) (below_entries rest)

-- all that is pending is counted below this line
abbrev pub CountsAll : State → ℕ → Type 0
CountsAll s below = (stage : Stage) → pending_below s stage below ≡ pending_count s stage
