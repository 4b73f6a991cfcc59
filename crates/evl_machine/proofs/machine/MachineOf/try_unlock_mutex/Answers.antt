use Rattle.std.proofs.Common.{subst, sym}
use Rattle.evl_machine.specs.calls.Calls.{HoldsAtItsStage}
use Rattle.evl_machine.proofs.callers.Opened.{own_wait, spends_idle}
use Rattle.evl_machine.proofs.callers.Staying.{at_stage}
use Rattle.evl_machine.proofs.machine.MachineOf.try_unlock_mutex.Goals as goal

pub returns-in-Some-clause-stage : goal.returns-in-Some-clause-stage
returns-in-Some-clause-stage g c = subst HoldsAtItsStage c.caller.view_is (at_stage _ _ _ _ c.spend_refusal.ensures.held c.caller.invariant.1 c.caller.invariant.0.own)

pub release_with_kernel-requires-clause-idle : goal.release_with_kernel-requires-clause-idle
release_with_kernel-requires-clause-idle g c = own_wait c.caller.inside.actor c.args.caller.now _ c.caller.view_is c.caller.invariant (spends_idle _ _ c.args.pass (sym c.in_default.ensures.refused))

pub unlock_at_word-requires-clause-idle : goal.unlock_at_word-requires-clause-idle
unlock_at_word-requires-clause-idle g c = own_wait c.caller.inside.actor c.args.caller.now _ c.caller.view_is c.caller.invariant (spends_idle _ _ c.args.pass (sym c.in_default.ensures.refused))
