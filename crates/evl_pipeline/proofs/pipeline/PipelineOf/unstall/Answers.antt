use Rattle.std.proofs.Common.{false}
use Rattle.evl_base.specs.declared.stage.Stage.TheVariants.{Inband, Oob}
use Rattle.evl_pipeline.proofs.LineLaws.{sound-set_stalled}
use Rattle.evl_pipeline.proofs.pipeline.PipelineOf.unstall.Goals as goal

pub invariant_of-self : goal.invariant_of-self
invariant_of-self g c = rw c.set_stalled.ensures.state (sound-set_stalled _ Oob false c.self.invariant)

pub invariant_of-self-in-Inband : goal.invariant_of-self-in-Inband
invariant_of-self-in-Inband g c = rw c.set_stalled-in-Inband.ensures.state (sound-set_stalled _ Inband false c.self.invariant)
