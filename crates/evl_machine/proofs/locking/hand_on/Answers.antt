use Rattle.std.proofs.Common.{IfSome, sym, subst}
use Rattle.evl_base.specs.declared.numbers.ThreadId.{ThreadId}
use Rattle.evl_machine.specs.callers.Actors.{SeatedActor, acting}
use Rattle.evl_core.specs.words.MutexSeats.{HasOnce, HasSeat}
use Rattle.evl_machine.proofs.mutex_locks.SeatsAt.{at_table_of, holds_for, once_at, seat_there}
use Rattle.evl_machine.proofs.locking.hand_on.Goals as goal

pub offer-requires-clause-table : goal.offer-requires-clause-table
offer-requires-clause-table g c = (at_table_of _ _ c.actor.view_is _ _ c.actor.invariant c.requires.table)

pub offer-requires-clause-holder : goal.offer-requires-clause-holder
offer-requires-clause-holder g c = holds_for _ _ c.actor.view_is c.args.core.now.shared.table_id c.args.core.now.shared.key.value c.requires.holder c.args.pass.mutex.0

pub offer-requires-clause-once : goal.offer-requires-clause-once
offer-requires-clause-once g c = once_at _ _ _ c.args.pass (subst (λ (a : SeatedActor _). HasOnce (acting a).mutexes c.args.pass) (sym c.actor.view_is) c.requires.once)

pub offer-requires-clause-next : goal.offer-requires-clause-next
offer-requires-clause-next g c = seat_there _ _ _ c.args.pass.mutex.0 _ c.actor.invariant.places.its.placed (subst (λ (a : SeatedActor _). HasSeat (acting a).mutexes c.args.pass.mutex.0 c.in-Some.next.0) (sym c.actor.view_is) (subst (λ o. IfSome o (λ (n : ThreadId). HasSeat (acting c.args.actor.now).mutexes c.args.pass.mutex.0 n.0)) c.in-Some.is c.requires.next))

pub free-requires-clause-holder : goal.free-requires-clause-holder
free-requires-clause-holder g c = holds_for _ _ c.actor.view_is c.args.core.now.shared.table_id c.args.core.now.shared.key.value c.requires.holder c.args.pass.mutex.0

pub free-requires-clause-once : goal.free-requires-clause-once
free-requires-clause-once g c = once_at _ _ _ c.args.pass (subst (λ (a : SeatedActor _). HasOnce (acting a).mutexes c.args.pass) (sym c.actor.view_is) c.requires.once)
