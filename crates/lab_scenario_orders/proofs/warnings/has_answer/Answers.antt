use Rattle.std.proofs.Common.{List, ℕ, ◌∙◌, ap}
use Rattle.lab_scenario_orders.specs.Asks.{some_line}
use Rattle.lab_scenario_orders.specs.Warnings.{has_answer}
use Rattle.lab_scenario_orders.proofs.warnings.has_answer.Goals as goal

pub returns : goal.returns
returns c =
    c.some_line.ensures ∙ ap (λ (text : List ℕ). some_line (has_answer c.args.who.now c.args.answer.now c.args.place) text) c.as_bytes.ensures.value
