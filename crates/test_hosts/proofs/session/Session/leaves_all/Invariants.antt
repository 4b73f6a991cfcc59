use Rattle.std.proofs.Common.{◌≡◌}
use Rattle.test_hosts.proofs.session.Session.leaves_all.Given as goal

abbrev pub invariant-loop : goal.invariant-loop
invariant-loop g l = l.self ≡ l.fn.self
