use Rattle.std.proofs.Common.{◌≡◌, ◌++◌, drop, map, take}
use Rattle.lab_drawing.specs.Pictures.{wait_behind}
use Rattle.lab_drawing.proofs.waits.note.Given as goal

abbrev pub invariant-loop-wait : goal.invariant-loop-wait
invariant-loop-wait l = take l.wait-index l.waits ++ map (wait_behind l.mark) (drop l.wait-index l.waits) ≡ map (wait_behind l.mark) l.initial.waits
