use Rattle.evl_kernel.specs.state.RecordsInside.{records_view}
use Rattle.evl_kernel.specs.state.ElementsViews.{owners_of}
use Rattle.evl_kernel.proofs.state.RankLaws.{ranks-stage_set}
use Rattle.evl_kernel.proofs.waiting.WaitRecords.{sound_with}
use Rattle.evl_kernel.proofs.records.Records.set_stage.Goals as goal

pub invariant_of-self-2 : goal.invariant_of-self-2
invariant_of-self-2 g c =
    sound_with (records_view c.self.inside) c.self.invariant c.self.inside.elements c.set_stage.new.self c.self.inside.waits.items
    (ranks-stage_set (owners_of c.self.inside.elements) c.self.inside.sched c.set_stage.new.self c.self.invariant.ranks c.args.thread.0 c.args.stage c.in_ok-set_stage.ensures.state) c.self.invariant.waits
