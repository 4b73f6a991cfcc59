use Rattle.std.proofs.Common.{◌≡◌, IfOk, List, ℕ, option_map, subst}
use Rattle.std.specs.Prelude.{find}
use Rattle.lab_scenario_orders.specs.Answers.{is_meant}
use Rattle.lab_scenario_orders.proofs.answers.meant_by.Goals as goal

pub returns : goal.returns
returns c =
    subst (λ (words : List (List ℕ)). IfOk c.meant_among.result (λ found. option_map (λ word. word.now) found ≡ find (is_meant c.args.steps.now c.args.never.now) words))
    c.plain_answers.ensures c.meant_among.ensures
