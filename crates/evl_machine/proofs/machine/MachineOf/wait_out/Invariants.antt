use Rattle.evl_machine.specs.calls.Waitings.{Looked}
use Rattle.evl_machine.proofs.machine.MachineOf.wait_out.Given as goal

abbrev pub invariant-loop : goal.invariant-loop
invariant-loop g l = Looked l.fn.caller l.caller
