use Rattle.std.proofs.Common.{Bool, ap, ◌∙◌}
use Rattle.std.specs.Prelude.{slice_set}
use Rattle.std.proofs.lemmas.Result.{IfOk-weaker}
use Rattle.lab_step_orders.specs.Moments.{shared_of}
use Rattle.lab_step_orders.specs.Words.{along, mutex_kinds, holds}
use Rattle.lab_step_orders.proofs.words.mutex_after.Goals as goal

pub returns : goal.returns
returns c =
    let mutex = c.args.mutex.now in
    let k = c.args.caller in
    IfOk-weaker c.with_holder.result _ _ (λ next is.
    let word = c.mutex_word-word.ensures (holds (shared_of mutex) k) in
    let held = c.mutex_held-held.ensures
    ∙ ap (λ (b : Bool). (along k (mutex_kinds c.args.step) mutex.word b).1) c.holds.ensures in
    is ∙ (λ i. record { word = word i; held = slice_set mutex.held.items k (held i) })) c.with_holder.ensures
