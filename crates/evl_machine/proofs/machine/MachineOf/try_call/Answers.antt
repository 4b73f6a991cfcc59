use Rattle.std.proofs.Common.{subst}
use Rattle.evl_machine.specs.calls.Calls.{HoldsAtItsStage}
use Rattle.evl_machine.proofs.callers.Staying.{at_stage}
use Rattle.evl_machine.proofs.machine.MachineOf.try_call.Goals as goal

pub returns-in-Some-clause-stage : goal.returns-in-Some-clause-stage
returns-in-Some-clause-stage g c = subst HoldsAtItsStage c.caller.view_is (at_stage _ _ _ _ c.refusal.ensures.held c.caller.invariant.1 c.caller.invariant.0.own)
