use Rattle.test_core.proofs.growths.growths.refusal_of_room.Goals as goal

pub returns : goal.returns
returns g c = rw c.reserve.ensures.callbacks c.requires
