use Rattle.std.proofs.Common.{◌≡◌}
use Rattle.lab_moments.specs.Standings.{handed_below}
use Rattle.lab_moments.proofs.handed.handed_to.Given as goal

abbrev pub invariant-loop-thread : goal.invariant-loop-thread
invariant-loop-thread g l = l.first ≡ handed_below l.kernel.history.state l.mutex l.thread
