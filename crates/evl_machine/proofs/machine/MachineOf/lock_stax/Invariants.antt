use Rattle.evl_machine.specs.calls.Calls.{stage_of_caller}
use Rattle.evl_machine.specs.stax_locks.StaxCalls.{StaxCall}
use Rattle.evl_machine.proofs.stax_locks.StaxWaitLaws.{RetriesSoFar}
use Rattle.evl_machine.proofs.machine.MachineOf.lock_stax.Given as goal

abbrev pub invariant-loop : goal.invariant-loop
invariant-loop g l = StaxCall l.fn.caller (λ old new. RetriesSoFar l.stax.0 (stage_of_caller l.fn.caller) old l.marked new) l.caller
