use Rattle.evl_sched.proofs.contenders.queue_up.Goals as goal

pub put-requires-clause-there : goal.put-requires-clause-there
put-requires-clause-there g c = c.requires.0

pub put-requires-clause-free : goal.put-requires-clause-free
put-requires-clause-free g c = c.requires.1
