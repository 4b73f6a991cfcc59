use Rattle.std.proofs.Common.{◌≡◌, ◌++◌, map}
use Rattle.evl_scenario.specs.Writings.{step_of_entry}
use Rattle.lab_lines.proofs.writing.entries_of.Given as goal

abbrev pub invariant-loop-step : goal.invariant-loop-step
invariant-loop-step l = map step_of_entry l.entries.items ++ l.step-iterator.rest.items ≡ l.fn.steps.items
