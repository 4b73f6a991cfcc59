use Rattle.evl_sched.proofs.RankSetLaws.{mark-added, mark-kept}
use Rattle.evl_sched.proofs.thread_set.ThreadSet.insert.Goals as goal

pub returns-clause-added : goal.returns-clause-added
returns-clause-added g c = mark-added _ _ c.args.thread c.insert.ensures.added

pub returns-clause-others : goal.returns-clause-others
returns-clause-others g c = rw (← c.self.view_is) (mark-kept _ _ c.args.thread c.insert.ensures.added)
