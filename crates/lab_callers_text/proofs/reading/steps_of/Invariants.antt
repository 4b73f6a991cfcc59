use Rattle.std.proofs.Common.{◌≡◌, ◌++◌}
use Rattle.lab_callers_text.specs.Readings.{steps_as}
use Rattle.lab_callers_text.proofs.reading.steps_of.Given as goal

abbrev pub invariant-loop-mark : goal.invariant-loop-mark
invariant-loop-mark l = l.all.items ++ steps_as l.mark-iterator.a.rest.items l.mark-iterator.b.rest.items ≡ steps_as l.fn.marks.items l.fn.steps.items
