use Rattle.test_core.proofs.kernels.handlers.reserve.Goals as goal

pub returns : goal.returns
returns g c = record { by_plan = rw c.reserve.ensures.callbacks c.requires.by_plan }
