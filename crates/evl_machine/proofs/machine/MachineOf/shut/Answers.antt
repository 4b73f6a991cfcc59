use Rattle.std.proofs.Common.{sym, subst}
use Rattle.evl_machine.specs.callers.Actors.{SeatedActor}
use Rattle.evl_machine.specs.callers.InHand.{MayShut}
use Rattle.evl_machine.proofs.callers.Visits.{actor_kept, has_shut}
use Rattle.evl_machine.proofs.machine.MachineOf.shut.Goals as goal

pub give_kernel-requires : goal.give_kernel-requires
give_kernel-requires g c =
    let may = subst (λ (a : SeatedActor _). MayShut c.args.self.now.id a c.args.kernel) (sym c.actor.view_is) c.requires in
    record { machine = may.machine; comes = may.comes; kernel = (may.held.holds, may.held.continues); settled = may.settled }

pub invariant_of-actor : goal.invariant_of-actor
invariant_of-actor g c =
    let gave = c.give_kernel.ensures in
    actor_kept _ _ _ c.give_kernel.new.seat.me c.actor.view_is c.actor.invariant gave.same.0 gave.same.2 gave.places

pub returns : goal.returns
returns g c =
    let gave = c.give_kernel.ensures in
    has_shut _ _ _ c.give_kernel.new.seat.me c.actor.view_is c.actor.invariant gave.same.0 gave.same.2 gave.places _ c.requires.held gave.given gave.event
