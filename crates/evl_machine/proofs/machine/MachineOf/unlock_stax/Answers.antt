use Rattle.std.proofs.Common.{sym, subst}
use Rattle.evl_machine.specs.callers.Callers.{IsResting}
use Rattle.evl_machine.specs.declared.caller.CallerOf.TheInside.{Inside}
use Rattle.evl_machine.proofs.callers.Staying.{at_stage}
use Rattle.evl_machine.proofs.stax_locks.StaxCalls.{actor_at_staxes, left_held}
use Rattle.evl_machine.proofs.machine.MachineOf.unlock_stax.Goals as goal

pub invariant_of-caller-inside : goal.invariant_of-caller-inside
invariant_of-caller-inside g c = actor_at_staxes _ _ c.caller-inside.invariant (left_held _ _ _ _ _ c.unlock.ensures.left c.caller-inside.invariant.held) c.unlock.ensures.numbers

pub returns-clause-stage : goal.returns-clause-stage
returns-clause-stage g c =
    let inv = subst (λ (x : Inside _ _). IsResting x.actor) (sym c.caller-inside.view_is) c.caller.invariant in
    at_stage _ _ _ _ (left_held _ _ _ _ _ c.unlock.ensures.left c.caller-inside.invariant.held) inv.1 inv.0.own
