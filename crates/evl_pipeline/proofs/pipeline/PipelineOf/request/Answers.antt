use Rattle.std.proofs.Common.{sym, ◌∙◌}
use Rattle.evl_base.specs.declared.stage.Stage.TheVariants.{Inband, Oob}
use Rattle.evl_pipeline.proofs.LineLaws.{request-not_clock, sound-filled}
use Rattle.evl_pipeline.proofs.pipeline.PipelineOf.request.Goals as goal

pub invariant_of-self : goal.invariant_of-self
invariant_of-self g c =
    rw c.install.ensures.state (sound-filled _ Oob c.args.line.0 c.args.callback c.args.tag c.self.invariant
    (request-not_clock c.args.self.now c.args.line.0 c.args.stage _ (sym c.request_refusal.ensures.refusal ∙ c.in_default.is)))

pub invariant_of-self-in-Inband : goal.invariant_of-self-in-Inband
invariant_of-self-in-Inband g c =
    rw c.install-in-Inband.ensures.state (sound-filled _ Inband c.args.line.0 c.args.callback c.args.tag c.self.invariant
    (request-not_clock c.args.self.now c.args.line.0 c.args.stage _ (sym c.request_refusal.ensures.refusal ∙ c.in_default.is)))
