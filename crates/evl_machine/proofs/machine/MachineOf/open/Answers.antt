use Rattle.evl_machine.proofs.callers.Visits.{actor_kept, opened_or_missed}
use Rattle.evl_machine.proofs.machine.MachineOf.open.Goals as goal

pub invariant_of-actor : goal.invariant_of-actor
invariant_of-actor g c =
    let took = c.take_kernel.ensures in
    actor_kept _ _ _ c.take_kernel.new.seat.me c.actor.view_is c.actor.invariant took.same.0 took.same.2 took.places

pub returns : goal.returns
returns g c =
    let took = c.take_kernel.ensures in
    opened_or_missed _ _ _ c.take_kernel.new.seat.me c.actor.view_is c.actor.invariant took.same.0 took.same.2 took.places _ c.requires.rests took.event took.taken took.holder
