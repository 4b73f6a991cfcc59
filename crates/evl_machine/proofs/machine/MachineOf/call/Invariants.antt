use Rattle.std.proofs.Common.{◌≡◌}
use Rattle.evl_machine.specs.calls.Calls.{IsTurnedAway}
use Rattle.evl_machine.proofs.machine.MachineOf.call.Given as goal

abbrev pub invariant-loop : goal.invariant-loop
invariant-loop g l = IsTurnedAway l.fn.caller l.caller × (l.waiting ≡ l.fn.call)
