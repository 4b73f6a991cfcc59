use Rattle.std.proofs.Common.{◌∙◌, List, ℕ, ap}
use Rattle.lab_step_orders.specs.Seen.{answers_after}
use Rattle.lab_step_orders.proofs.TextLaws.{answers_set}
use Rattle.lab_step_orders.proofs.moments.answers_after.Goals as goal

pub returns : goal.returns
returns c =
    answers_set c.args.answers.now c.in_ok-all.all.items c.args.caller c.in_ok-told.told c.index-answers-caller.result c.args.then c.requires c.in_ok-all.ensures
    c.index-answers-caller.is (c.in_ok-told.ensures ∙ ap (λ (text : List ℕ). answers_after c.args.then text) c.as_str.ensures.value)
