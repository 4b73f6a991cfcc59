use Rattle.std.proofs.Common.{sym, subst}
use Rattle.evl_machine.specs.callers.Callers.{IsResting}
use Rattle.evl_machine.specs.declared.caller.CallerOf.TheInside.{Inside}
use Rattle.evl_machine.proofs.callers.Staying.{at_stage}
use Rattle.evl_machine.proofs.stax_locks.StaxCalls.{actor_at_staxes}
use Rattle.evl_machine.proofs.stax_locks.StaxWaitLaws.{marks_held}
use Rattle.evl_machine.proofs.machine.MachineOf.mark_stax.Goals as goal

pub invariant_of-caller-inside : goal.invariant_of-caller-inside
invariant_of-caller-inside g c = actor_at_staxes _ _ c.caller-inside.invariant (marks_held _ _ _ _ c.claim.ensures.marked c.caller-inside.invariant.held) c.claim.ensures.numbers

pub returns-clause-stage : goal.returns-clause-stage
returns-clause-stage g c =
    let inv = subst (λ (x : Inside _ _). IsResting x.actor) (sym c.caller-inside.view_is) c.caller.invariant in
    at_stage _ _ _ _ (marks_held _ _ _ _ c.claim.ensures.marked c.caller-inside.invariant.held) inv.1 inv.0.own
