use Rattle.std.proofs.Common.{sym, subst}
use Rattle.evl_machine.specs.callers.Callers.{IsResting}
use Rattle.evl_machine.specs.declared.caller.CallerOf.TheInside.{Inside}
use Rattle.evl_machine.proofs.callers.Staying.{at_stage}
use Rattle.evl_machine.proofs.stax_locks.StaxCalls.{actor_at_staxes, tried_held}
use Rattle.evl_machine.proofs.machine.MachineOf.try_lock_stax.Goals as goal

pub invariant_of-caller-inside : goal.invariant_of-caller-inside
invariant_of-caller-inside g c = actor_at_staxes _ _ c.caller-inside.invariant (tried_held _ _ _ _ _ c.try_lock.ensures.tried c.caller-inside.invariant.held) c.try_lock.ensures.numbers

pub returns-clause-stage : goal.returns-clause-stage
returns-clause-stage g c =
    let inv = subst (λ (x : Inside _ _). IsResting x.actor) (sym c.caller-inside.view_is) c.caller.invariant in
    at_stage _ _ _ _ (tried_held _ _ _ _ _ c.try_lock.ensures.tried c.caller-inside.invariant.held) inv.1 inv.0.own
