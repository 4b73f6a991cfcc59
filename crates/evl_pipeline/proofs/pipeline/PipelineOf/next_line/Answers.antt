use Rattle.std.proofs.Common.{sym}
use Rattle.evl_base.specs.declared.stage.Stage.TheVariants.{Inband, Oob}
use Rattle.evl_pipeline.proofs.NumberSetLaws.{contains-least}
use Rattle.evl_pipeline.proofs.pipeline.PipelineOf.next_line.Goals as goal

pub returns-in-Some-clause-has : goal.returns-in-Some-clause-has
returns-in-Some-clause-has g c =
    rw (← c.self.view_is) (c.self.invariant.stands Oob c.in-Some.line (contains-least c.self.inside.oob.pending c.in-Some.line (sym c.in-Some.ensures.least)))

pub returns-clause-has : goal.returns-clause-has
returns-clause-has g c =
    rw (← c.self.view_is) (c.self.invariant.stands Inband c.in_ok-line.line (contains-least c.self.inside.inband.pending c.in_ok-line.line (sym c.in_ok-line.ensures.least)))
