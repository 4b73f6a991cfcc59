use Rattle.std.proofs.Common.{◌≡◌, true, sym, ap, ◌∙◌}
use Rattle.evl_base.specs.declared.stage.Stage.TheVariants.{Inband, Oob}
use Rattle.evl_pipeline.specs.Lines.{has_callback}
use Rattle.evl_pipeline.proofs.LineLaws.{sound-logged}
use Rattle.evl_pipeline.proofs.pipeline.PipelineOf.log.Goals as goal

pub invariant_of-self-in-Oob : goal.invariant_of-self-in-Oob
invariant_of-self-in-Oob g c =
    let has : has_callback c.args.self.now Oob c.args.line ≡ true = ap (λ stage. has_callback c.args.self.now stage c.args.line) (sym c.in-Oob.is) ∙ sym c.if-not-has_callback.ensures.has in
    rw c.log.ensures.state (sound-logged _ Oob c.args.line c.self.invariant c.requires (rw (← c.self.view_is) at has))

pub invariant_of-self-in-Inband : goal.invariant_of-self-in-Inband
invariant_of-self-in-Inband g c =
    let has : has_callback c.args.self.now Inband c.args.line ≡ true = ap (λ stage. has_callback c.args.self.now stage c.args.line) (sym c.in-Inband.is) ∙ sym c.if-not-has_callback.ensures.has in
    rw c.log-in-Inband.ensures.state (sound-logged _ Inband c.args.line c.self.invariant c.requires (rw (← c.self.view_is) at has))
