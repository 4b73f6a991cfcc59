use Rattle.std.proofs.Common.{◌≡◌, ◌≤◌}
use Rattle.test_core.proofs.callers.threads.turns.Given as goal

abbrev pub invariant-loop : goal.invariant-loop
invariant-loop g l = (l.caller.machine ≡ l.machine) × (l.done ≤ l.counter)
