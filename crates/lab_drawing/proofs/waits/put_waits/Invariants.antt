use Rattle.std.proofs.Common.{flat_map, string_bytes, take}
use Rattle.lab_drawing.specs.Shapes.{AddsSigns, wait_signs}
use Rattle.lab_drawing.proofs.waits.put_waits.Given as goal

abbrev pub invariant-loop-wait : goal.invariant-loop-wait
invariant-loop-wait l = AddsSigns (flat_map wait_signs (take l.wait-index l.waits)) (string_bytes l.initial.text) (string_bytes l.text)
