use Rattle.std.proofs.Common.{◌≡◌, ◌++◌, drop}
use Rattle.lab_drawing.specs.Events.{without}
use Rattle.lab_drawing.proofs.events.without.Given as goal

abbrev pub invariant-loop-line : goal.invariant-loop-line
invariant-loop-line l = l.kept.items ++ without l.lane (drop l.line-index l.lines) ≡ without l.lane l.lines
