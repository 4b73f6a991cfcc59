use Rattle.std.proofs.Common.{◌≡◌, [], ◌++◌, drop}
use Rattle.lab_drawing.specs.Pictures.{waits_of}
use Rattle.lab_drawing.proofs.waits.no_waits.Given as goal

abbrev pub invariant-loop-lane : goal.invariant-loop-lane
invariant-loop-lane l = l.waits.items ++ waits_of (drop l.lane-index l.lanes) [] ≡ waits_of l.lanes []
