use Rattle.std.proofs.Common.{◌≡◌, ◌++◌, drop, map}
use Rattle.lab_drawing.specs.Marks.{all_marked, marked_behind, told_of}
use Rattle.lab_drawing.proofs.marks.marks_of.Given as goal

abbrev pub invariant-loop-line : goal.invariant-loop-line
invariant-loop-line l = map told_of l.marks.items ++ marked_behind l.called.items (drop l.line-index l.lines) ≡ all_marked l.lines
