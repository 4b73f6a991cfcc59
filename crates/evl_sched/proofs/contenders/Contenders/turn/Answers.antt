use Rattle.evl_sched.proofs.contenders.Contenders.turn.Goals as goal

pub returns-in-None-clause-turned : goal.returns-in-None-clause-turned
returns-in-None-clause-turned g c = rw (← c.self.view_is, c.in-None.is) c.turn.ensures.turned

pub returns-in-None-clause-kept : goal.returns-in-None-clause-kept
returns-in-None-clause-kept g c = rw (← c.self.view_is, c.in-None.is) c.turn.ensures.kept
