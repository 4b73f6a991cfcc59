use Rattle.std.proofs.Common.{◌∙◌, ap}
use Rattle.std.proofs.lemmas.Result.{IfOk-weaker}
use Rattle.evl_base.specs.declared.stage.Stage.{Stage}
use Rattle.lab_step_orders.specs.Moments.{shared_of}
use Rattle.lab_step_orders.specs.Programs.{limit_of}
use Rattle.lab_step_orders.specs.Words.{gate_after}
use Rattle.lab_step_orders.proofs.moments.gate_stepped.Goals as goal

pub returns : goal.returns
returns c =
    let limit = limit_of c.args.crew.now c.args.stax.0 in
    IfOk-weaker c.gate_after.result _ _ (λ next is.
    is limit ∙ ap (λ (stage : Stage). gate_after limit stage c.args.caller c.args.step (shared_of c.args.gate.now)) c.stage_of.ensures)
    c.gate_after.ensures
