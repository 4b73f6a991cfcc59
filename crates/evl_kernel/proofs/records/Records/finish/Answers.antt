use Rattle.std.proofs.Common.{refl}
use Rattle.evl_base.specs.declared.stage.Stage.TheVariants.{Inband}
use Rattle.evl_kernel.specs.state.RecordsInside.{records_view}
use Rattle.evl_kernel.specs.state.ElementsViews.{owners_of}
use Rattle.evl_kernel.proofs.state.RankLaws.{ranks-stage_tried}
use Rattle.evl_kernel.proofs.waiting.WaitRecords.{finished_kept, sound_with}
use Rattle.evl_kernel.proofs.records.Records.finish.Goals as goal

pub invariant_of-self-then-goes : goal.invariant_of-self-then-goes
invariant_of-self-then-goes g c =
    sound_with (records_view c.self.inside) c.self.invariant c.self.inside.elements c.set_stage.new.self c.take_outcome.new.waits.items
    (ranks-stage_tried (owners_of c.self.inside.elements) c.self.inside.sched c.set_stage.new.self c.self.invariant.ranks c.args.thread.0 Inband c.set_stage.result c.set_stage.ensures.state c.set_stage.ensures.unchanged)
    (finished_kept c.self.inside.threads c.self.inside.elements.elements c.self.inside.waits.items c.self.invariant.waits c.args.thread.0 c.in-Ok.outcome c.in-Ok.ensures.outcome c.take_outcome.new.waits.items c.in-Ok.ensures.finished)

pub returns-in-Err-clause-served : goal.returns-in-Err-clause-served
returns-in-Err-clause-served g c = rw (← c.self.view_is, ← c.in-Err.ensures.outcome, c.in-Err.ensures.refused) (refl, refl)
