use Rattle.evl_base.specs.declared.stage.Stage.TheVariants.{Inband, Oob}
use Rattle.evl_pipeline.proofs.LineLaws.{sound-taken}
use Rattle.evl_pipeline.proofs.pipeline.PipelineOf.free.Goals as goal

pub invariant_of-self : goal.invariant_of-self
invariant_of-self g c =
    sound-taken _ Oob c.args.line.0 c.take-taken.result c.take-taken.new.self c.self.invariant c.if-line-eq0.false c.take-taken.ensures.none c.take-taken.ensures.some

pub invariant_of-self-in-Inband : goal.invariant_of-self-in-Inband
invariant_of-self-in-Inband g c =
    sound-taken _ Inband c.args.line.0 c.take-taken-in-Inband.result c.take-taken-in-Inband.new.self c.self.invariant c.if-line-eq0.false
    c.take-taken-in-Inband.ensures.none c.take-taken-in-Inband.ensures.some
