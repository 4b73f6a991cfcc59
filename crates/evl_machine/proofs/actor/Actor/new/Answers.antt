use Rattle.evl_base.specs.declared.stage.Stage.TheVariants.{Inband}
use Rattle.evl_machine.proofs.callers.Staying.{free_held}
use Rattle.evl_machine.proofs.actor.Actor.new.Goals as goal

pub invariant_of-result : goal.invariant_of-result
invariant_of-result g c = record { held = free_held Inband _ c.requires.free; awaits = tt; staxes = c.requires.numbers; places = c.requires.places }
