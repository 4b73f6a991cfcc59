use Rattle.std.proofs.Common.{◌≡◌}
use Rattle.test_core.proofs.elements.levels.keeps_neighbours.Given as goal

abbrev pub invariant-loop-number : goal.invariant-loop-number
invariant-loop-number g l = g.L.Level.limit l.set ≡ g.L.Level.limit l.initial.set
