use Rattle.std.proofs.Common.{refl}
use Rattle.evl_kernel.specs.state.RecordsInside.{records_view}
use Rattle.evl_kernel.proofs.state.SchedLaws.{stranger_answers, told_rank}
use Rattle.evl_kernel.proofs.records.Records.rank_of.Goals as goal

pub returns-in-Err-clause-answer : goal.returns-in-Err-clause-answer
returns-in-Err-clause-answer g c = stranger_answers c.self.inside.sched.sched c.args.thread.0 c.in-Err.refusal c.in-Err.ensures.refused

pub returns-in-Ok-clause-served : goal.returns-in-Ok-clause-served
returns-in-Ok-clause-served g c =
    rw (← c.self.view_is, c.told.ensures.number) (told_rank (records_view c.self.inside) c.self.invariant c.args.thread.0 c.in-Ok.rank c.in-Ok.ensures.ok.0 c.in-Ok.ensures.ok.1)

pub returns-in-Err-clause-served : goal.returns-in-Err-clause-served
returns-in-Err-clause-served g c = rw (← c.self.view_is, c.in-Err.ensures.refused) (refl, refl)

pub returns-in-Ok-clause-answer : goal.returns-in-Ok-clause-answer
returns-in-Ok-clause-answer g c = (refl, tt)
