use Rattle.std.proofs.Common.{refl}
use Rattle.evl_kernel.proofs.state.SchedLaws.{stranger_answers}
use Rattle.evl_kernel.specs.state.ElementsViews.{owners_of}
use Rattle.evl_kernel.proofs.state.ChangedLaws.{given-detached}
use Rattle.evl_kernel.proofs.records.Records.detach.Goals as goal

pub base_changed-requires-clause-given : goal.base_changed-requires-clause-given
base_changed-requires-clause-given g c = given-detached (owners_of c.self.inside.elements) c.self.inside.sched c.detach.new.self c.args.thread.0 c.self.invariant.ranks c.detach.result c.detach.ensures.state c.detach.ensures.unchanged

pub returns-in-Err-clause-answer : goal.returns-in-Err-clause-answer
returns-in-Err-clause-answer g c = stranger_answers c.self.inside.sched.sched c.args.thread.0 c.in-Err.refusal c.in-Err.ensures.refused

pub returns-in-Err-clause-served : goal.returns-in-Err-clause-served
returns-in-Err-clause-served g c = rw (← c.self.view_is, c.in-Err.ensures.refused) (refl, refl)
