use Rattle.evl_sync.proofs.LeavingLaws.{dropped_found, dropped_nowhere, stands_found, stands_nowhere}
use Rattle.evl_sync.proofs.ranked.leave.Goals as goal

pub returns-in-Some-clause-there : goal.returns-in-Some-clause-there
returns-in-Some-clause-there g c = stands_found g.W.Ranked.thread_of c.args.thread c.in-Some.place c.args.waiters.now.items (rw c.as_slice.ensures.value at c.in-Some.ensures.place)

pub returns-in-Some-clause-dropped : goal.returns-in-Some-clause-dropped
returns-in-Some-clause-dropped g c =
    dropped_found g.W.Ranked.thread_of g.W.Ranked.rank_of c.args.thread c.in-Some.place c.args.waiters.now.items _ c.remove.ensures.items c.requires.once (rw c.as_slice.ensures.value at c.in-Some.ensures.place)

pub returns-in-None-clause-there : goal.returns-in-None-clause-there
returns-in-None-clause-there g c = stands_nowhere g.W.Ranked.thread_of c.args.thread c.args.waiters.now.items (rw c.as_slice.ensures.value at c.in-None.ensures.place)

pub returns-in-None-clause-dropped : goal.returns-in-None-clause-dropped
returns-in-None-clause-dropped g c = dropped_nowhere g.W.Ranked.thread_of c.args.thread c.args.waiters.now.items (rw c.as_slice.ensures.value at c.in-None.ensures.place)
