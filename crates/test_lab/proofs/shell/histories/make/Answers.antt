use Rattle.test_lab.proofs.shell.histories.make.Goals as goal

pub returns : goal.returns
returns g c = record { by_plan = c.apply.ensures.by_plan }
