use Rattle.std.proofs.Common.{refl}
use Rattle.evl_pipeline.specs.Lines.{opening}
use Rattle.evl_pipeline.proofs.LineLaws.{sound-opening}
use Rattle.evl_pipeline.proofs.pipeline.PipelineOf.with_room.Goals as goal

pub invariant_of-result : goal.invariant_of-result
unfolding opening
invariant_of-result g c = rw (c.in_ok-oob.ensures.empty, c.in_ok-inband.ensures.empty, c.in_ok-spurious.ensures.empty) sound-opening

pub returns : goal.returns
unfolding opening
returns g c = record { opening = rw (c.in_ok-oob.ensures.empty, c.in_ok-inband.ensures.empty, c.in_ok-spurious.ensures.empty) refl }
