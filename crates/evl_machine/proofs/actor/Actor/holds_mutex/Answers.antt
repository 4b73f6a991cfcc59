use Rattle.std.proofs.Common.{sym, ap, ◌∙◌}
use Rattle.evl_machine.specs.callers.Actors.{SeatedActor, acting}
use Rattle.evl_core.specs.words.MutexSeats.{holds_mutex}
use Rattle.evl_machine.proofs.mutex_locks.SeatsAt.{holds_at}
use Rattle.evl_machine.proofs.actor.Actor.holds_mutex.Goals as goal

pub returns : goal.returns
returns g c = record { holds = c.holds_any.ensures.holds ∙ sym (holds_at c.self.inside.seat.table_id c.self.inside.seat.me.0 c.self.inside.places) ∙ ap (λ (a : SeatedActor _). holds_mutex (acting a).mutexes) c.self.view_is }
