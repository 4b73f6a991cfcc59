use Rattle.std.proofs.Common.{◌≡◌}
use Rattle.test_hosts.proofs.races.attached.Given as goal

abbrev pub invariant-loop-step : goal.invariant-loop-step
invariant-loop-step g l = l.caller.machine ≡ l.machine
