use Rattle.std.proofs.Common.{◌∙◌, ℕ, List, ap}
use Rattle.lab_scenario_orders.specs.Splits.{scenario_part}
use Rattle.evl_scenario.proofs.Texts.{is_utf8-false, is_utf8-true}
use Rattle.lab_step_texts.specs.Kinds.{asks_steps}
use Rattle.lab_step_texts.proofs.ReadingLaws.{asks_as}
use Rattle.lab_step_texts.proofs.reading.asks_steps.Goals as goal

pub returns-in_default : goal.returns-in_default
unfolding asks_steps
returns-in_default c = let no = is_utf8-false c.args.bytes.now c.in_default.ensures.cases.0 in rw no

pub returns : goal.returns
returns c =
    asks_as _ c.is_of_callers.result c.args.bytes.now c.in-Ok.text.now c.as_bytes.result.now (is_utf8-true c.args.bytes.now c.in-Ok.ensures.cases.1) c.in-Ok.ensures.cases.0
    (c.as_bytes.ensures.value ∙ (c.as_str-2.ensures.value ∙ (c.in_ok-split.ensures.scenario ∙ ap (λ (t : List ℕ). scenario_part t) (c.as_str.ensures.value ∙ c.in_ok-extras.ensures.plain)))) c.is_of_callers.ensures
