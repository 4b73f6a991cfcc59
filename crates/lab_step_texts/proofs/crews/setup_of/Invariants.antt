use Rattle.std.proofs.Common.{◌≡◌, ◌++◌, drop}
use Rattle.lab_step_texts.specs.Calls.{attaches}
use Rattle.lab_step_texts.proofs.crews.setup_of.Given as goal

abbrev pub invariant-loop-step : goal.invariant-loop-step
invariant-loop-step l = l.all.items ++ attaches (drop l.step-index l.steps) ≡ attaches l.steps
