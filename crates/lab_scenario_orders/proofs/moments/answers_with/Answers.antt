use Rattle.std.proofs.Common.{◌∙◌, List, ℕ, ap}
use Rattle.lab_scenario_orders.specs.Callers.{answer_line}
use Rattle.lab_scenario_orders.proofs.TextLaws.{answers_set}
use Rattle.lab_scenario_orders.proofs.moments.answers_with.Goals as goal

pub returns : goal.returns
returns c =
    answers_set c.args.answers.now c.in_ok-all.all.items c.args.caller c.in_ok-told.told c.index-answers-caller.result c.args.answer.now.0 c.requires c.in_ok-all.ensures
    c.index-answers-caller.is (c.in_ok-told.ensures ∙ ap (λ (text : List ℕ). answer_line text c.args.answer.now.0) c.as_str.ensures.value)
