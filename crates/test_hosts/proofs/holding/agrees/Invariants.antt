use Rattle.std.proofs.Common.{◌≡◌}
use Rattle.test_hosts.proofs.holding.agrees.Given as goal

abbrev pub invariant-loop-number : goal.invariant-loop-number
invariant-loop-number g l = l.held ≡ l.fn.held
