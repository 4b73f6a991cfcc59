use Rattle.std.proofs.Common.{◌≡◌, ◌++◌, drop}
use Rattle.lab_drawing.specs.Titles.{escaped}
use Rattle.lab_drawing.proofs.escapes.put_escaped.Given as goal

abbrev pub invariant-loop-byte : goal.invariant-loop-byte
invariant-loop-byte l = l.buffer.items ++ escaped (drop l.byte-index l.text) ≡ l.initial.buffer.items ++ escaped l.text
