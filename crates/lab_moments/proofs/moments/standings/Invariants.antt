use Rattle.std.proofs.Common.{◌≡◌, ◌++◌, drop, filter_map}
use Rattle.lab_moments.specs.Standings.{stands}
use Rattle.lab_moments.proofs.moments.standings.Given as goal

abbrev pub invariant-loop-lane : goal.invariant-loop-lane
invariant-loop-lane g l = l.told.items ++ filter_map (stands l.kernel.history.state) (drop l.lane-index l.lanes) ≡ filter_map (stands l.kernel.history.state) l.lanes
