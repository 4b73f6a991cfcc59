use Rattle.std.proofs.Common.{refl}
use Rattle.evl_kernel.proofs.state.SchedLaws.{attach_answers}
use Rattle.evl_kernel.specs.state.ElementsViews.{owners_of}
use Rattle.evl_kernel.proofs.state.ChangedLaws.{given-attached}
use Rattle.evl_kernel.proofs.records.Records.attach.Goals as goal

pub returns-in-Err-clause-answer : goal.returns-in-Err-clause-answer
returns-in-Err-clause-answer g c = attach_answers c.self.inside.sched.sched c.args.thread.0 c.args.policy c.in-Err.refusal c.in-Err.ensures.refused

pub base_changed-requires-clause-given : goal.base_changed-requires-clause-given
base_changed-requires-clause-given g c = given-attached (owners_of c.self.inside.elements) c.self.inside.sched c.attach.new.self c.args.thread.0 c.self.invariant.ranks c.args.policy c.args.stage c.in-Ok.ensures.state

pub returns-in-Err-clause-served : goal.returns-in-Err-clause-served
returns-in-Err-clause-served g c = rw (← c.self.view_is, c.in-Err.ensures.refused, c.in-Err.ensures.unchanged) (refl, refl)
