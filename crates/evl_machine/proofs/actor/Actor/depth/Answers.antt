use Rattle.std.proofs.Common.{sym, ap, ◌∙◌}
use Rattle.evl_machine.specs.callers.Actors.{SeatedActor, acting}
use Rattle.evl_core.specs.words.MutexSeats.{depth_at}
use Rattle.evl_machine.proofs.mutex_locks.SeatsAt.{depth_there}
use Rattle.evl_machine.proofs.actor.Actor.depth.Goals as goal

pub returns : goal.returns
returns g c = record { depth = c.depth.ensures.depth ∙ sym (depth_there c.self.inside.seat.table_id c.self.inside.seat.me.0 c.self.inside.places c.args.mutex.0) ∙ ap (λ (a : SeatedActor _). depth_at (acting a).mutexes c.args.mutex.0) c.self.view_is }
