use Rattle.std.proofs.Common.{◌≡◌}
use Rattle.test_core.proofs.callers.threads.takes_turn.Given as goal

abbrev pub invariant-loop-act : goal.invariant-loop-act
invariant-loop-act g l = l.caller.machine ≡ l.machine
