use Rattle.std.proofs.Common.{Bool, ap, ◌∙◌}
use Rattle.std.specs.Prelude.{is_some, slice_set}
use Rattle.std.proofs.lemmas.Result.{IfOk-weaker}
use Rattle.evl_words.specs.GateWorld.{step_held}
use Rattle.lab_step_orders.specs.Moments.{shared_of}
use Rattle.lab_step_orders.specs.Words.{gate_kind, gate_view, holds}
use Rattle.lab_step_orders.proofs.words.gate_after.Goals as goal

pub returns : goal.returns
returns c =
    let gate = c.args.gate.now in
    let k = c.args.caller in
    let stage = c.args.stage in
    IfOk-weaker c.with_holder.result _ _ (λ next is limit.
    let word = c.gate_word-word.ensures limit k (holds (shared_of gate) k) in
    let held = c.gate_held-held.ensures limit k stage
    ∙ ap (λ (b : Bool). is_some (step_held gate.word k (gate_view limit stage b) (gate_kind stage c.args.step)).stage) c.holds.ensures in
    is ∙ (λ i. record { word = word i; held = slice_set gate.held.items k (held i) })) c.with_holder.ensures
