use Rattle.std.proofs.Common.{◌≡◌}
use Rattle.test_hosts.proofs.session.Session.chooses.Given as goal

abbrev pub invariant-loop : goal.invariant-loop
invariant-loop g l = l.session ≡ l.fn.self
