use Rattle.std.proofs.Common.{refl}
use Rattle.evl_pipeline.specs.Lines.{opening}
use Rattle.evl_pipeline.proofs.LineLaws.{sound-opening}
use Rattle.evl_pipeline.proofs.pipeline.PipelineOf.reset.Goals as goal

pub invariant_of-self : goal.invariant_of-self
unfolding opening
invariant_of-self g c = rw (c.reset.ensures.empty, c.reset-2.ensures.empty, c.clear.ensures.empty) sound-opening

pub returns : goal.returns
unfolding opening
returns g c = record { opening = rw (c.reset.ensures.empty, c.reset-2.ensures.empty, c.clear.ensures.empty) refl }
