use Rattle.std.proofs.Common.{sym, arith}
use Rattle.evl_bitmap.proofs.NumberSetLaws.{length-remove_least}
use Rattle.evl_sched.proofs.RankSetLaws.{mark-left}
use Rattle.evl_sched.proofs.thread_set.ThreadSet.take_least.Goals as goal

pub returns-in-Some-clause-others : goal.returns-in-Some-clause-others
returns-in-Some-clause-others g c = rw (← c.self.view_is) (mark-left _ _ c.in-Some.thread c.remove.ensures.removed)

pub returns-in-Some-clause-fewer : goal.returns-in-Some-clause-fewer
returns-in-Some-clause-fewer g c = rw (← c.self.view_is, c.remove.ensures.removed) (omega (arith, length-remove_least _ c.in-Some.thread (sym c.in-Some.ensures.least)))
