use Rattle.std.proofs.Common.{◌≡◌, ◌++◌, drop}
use Rattle.lab_caller_pictures.specs.Joins.{threads_in}
use Rattle.lab_caller_pictures.proofs.joins.threads_in.Given as goal

abbrev pub invariant-loop-lane : goal.invariant-loop-lane
invariant-loop-lane l = l.threads.items ++ threads_in (drop l.lane-index l.lanes) ≡ threads_in l.lanes
