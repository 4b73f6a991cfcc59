use Rattle.std.proofs.Common.{◌≡◌, ◌++◌, map}
use Rattle.lab_step_texts.specs.Calls.{kernel_step}
use Rattle.lab_step_texts.proofs.crews.steps_of.Given as goal

abbrev pub invariant-loop-step : goal.invariant-loop-step
invariant-loop-step l = l.all.items ++ map kernel_step l.step-iterator.rest.items ≡ map kernel_step l.fn.steps.items
