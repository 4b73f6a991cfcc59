use Rattle.evl_base.specs.declared.stage.Stage.TheVariants.{Inband, Oob}
use Rattle.evl_pipeline.proofs.LineLaws.{sound-stepped}
use Rattle.evl_pipeline.proofs.pipeline.PipelineOf.play.Goals as goal

pub invariant_of-self : goal.invariant_of-self
invariant_of-self g c =
    sound-stepped _ Oob c.args.line c.args.now g.C.Handler.declared g.C.Handler.plan g.C.Handler.gives c.play.result c.play.new.self c.self.invariant c.play.ensures.none
    (rw c.in-Oob.is at c.play.ensures.some)

pub invariant_of-self-in-Inband : goal.invariant_of-self-in-Inband
invariant_of-self-in-Inband g c =
    sound-stepped _ Inband c.args.line c.args.now g.C.Handler.declared g.C.Handler.plan g.C.Handler.gives c.play-in-Inband.result c.play-in-Inband.new.self c.self.invariant
    c.play-in-Inband.ensures.none (rw c.in-Inband.is at c.play-in-Inband.ensures.some)
