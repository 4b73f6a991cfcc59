use Rattle.std.proofs.Common.{refl}
use Rattle.evl_sched.proofs.contenders.Contenders.put.Goals as goal

pub put-requires-clause-there : goal.put-requires-clause-there
put-requires-clause-there g c = rw c.join.ensures.joined (rw (← c.self.view_is) at c.requires.there)

pub put-requires-clause-free : goal.put-requires-clause-free
put-requires-clause-free g c = rw c.join.ensures.joined (rw (← c.self.view_is) at c.requires.free)

pub returns-else-has_nobody : goal.returns-else-has_nobody
returns-else-has_nobody g c = rw (← c.self.view_is, c.put.ensures.put, c.join.ensures.none, c.join.ensures.joined) (record { put = refl })
