use Rattle.std.proofs.Common.{sym, ap, ◌∙◌}
use Rattle.evl_machine.specs.callers.Actors.{SeatedActor, acting}
use Rattle.evl_core.specs.words.MutexSeats.{unlock_refusal}
use Rattle.evl_machine.proofs.mutex_locks.SeatsAt.{refusal_there}
use Rattle.evl_machine.proofs.actor.Actor.pass_refusal.Goals as goal

pub returns : goal.returns
returns g c = record { refused = c.refusal.ensures.refused ∙ sym (refusal_there c.self.inside.seat.table_id c.self.inside.seat.me.0 c.self.inside.places c.args.pass.now) ∙ ap (λ (a : SeatedActor _). unlock_refusal (acting a).mutexes c.args.pass.now) c.self.view_is }
