use Rattle.std.proofs.Common.{◌∙◌}
use Rattle.lab_live.proofs.StepLaws.{asked_on, keeps_on}
use Rattle.lab_live.proofs.session.make_steps.Goals as goal

pub loop-step-preserved : goal.loop-step-preserved
loop-step-preserved c =
    let kept = c.loop-step.invariant in
    let took = c.in-Ok.ensures in
    let first = c.args.machine.now in
    let old = c.loop-step.machine.history in
    let new = c.take_step.new.machine.history in (
      c.take_step.ensures.limit ∙ kept.0,
      keeps_on first.limit _ first.history old new kept.0 kept.1 c.take_step.ensures.keeps,
      λ few. asked_on first.limit _ old new c.in-Some.step _ _ c.in-Ok.field-0 kept.0 (kept.1.within few) c.in-Some.ensures.steps.0
          took.entered took.room took.same took.full
          ∙ kept.2 few,
    )
