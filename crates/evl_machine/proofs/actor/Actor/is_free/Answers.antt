use Rattle.std.proofs.Common.{sym, ap, ◌∙◌, ◌==◌, ◌&&◌, nat_lt, length}
use Rattle.evl_machine.specs.callers.Actors.{SeatedActor, acting}
use Rattle.evl_core.specs.words.MutexSeats.{depth_at}
use Rattle.evl_machine.proofs.mutex_locks.SeatsAt.{depth_there, long_as}
use Rattle.evl_machine.proofs.actor.Actor.is_free.Goals as goal

pub returns : goal.returns
returns g c = record { free = c.is_free.ensures.free ∙ (λ i. nat_lt c.args.mutex.0 (sym (long_as c.self.inside.seat.table_id c.self.inside.seat.me.0 c.self.inside.places) i) && (sym (depth_there c.self.inside.seat.table_id c.self.inside.seat.me.0 c.self.inside.places c.args.mutex.0) i == 0)) ∙ ap (λ (a : SeatedActor _). nat_lt c.args.mutex.0 (length (acting a).mutexes) && (depth_at (acting a).mutexes c.args.mutex.0 == 0)) c.self.view_is }
