use Rattle.std.proofs.Common.{◌≡◌, drop}
use Rattle.lab_drawing.specs.Callbacks.{missing_callback}
use Rattle.lab_drawing.proofs.callbacks.missing_callback.Given as goal

abbrev pub invariant-loop-line : goal.invariant-loop-line
invariant-loop-line l = missing_callback l.count (drop l.line-index l.lines) ≡ missing_callback l.count l.lines
