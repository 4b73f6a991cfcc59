use Rattle.std.proofs.Common.{◌≤◌}
use Rattle.test_core.proofs.elements.levels.stays_alike.Given as goal

abbrev pub invariant-loop : goal.invariant-loop
invariant-loop g l = l.limit ≤ g.L.Level.limit l.set
