use Rattle.std.proofs.Common.{◌≡◌, ◌∙◌, IsSomeAnd, List, ℕ, ap, inl, inr, option_and_then, refl, subst}
use Rattle.std.proofs.lemmas.Result.{IfOk-weaker}
use Rattle.toml.specs.Parse.{parse_document}
use Rattle.lab_scenario_orders.specs.Asks.{Asks, ask_table}
use Rattle.lab_scenario_orders.specs.Splits.{ask_part}
use Rattle.evl_scenario.proofs.Texts.{is_utf8-false}
use Rattle.lab_step_texts.specs.Questions.{unasked_part}
use Rattle.lab_step_texts.proofs.QuestionLaws.{unasked_for}
use Rattle.lab_step_texts.proofs.asks.read_step_ask.Goals as goal

pub returns-in-Ok-named-clause-asks : goal.returns-in-Ok-named-clause-asks
returns-in-Ok-named-clause-asks c =
    let same : c.as_bytes.result.now ≡ unasked_part c.args.bytes.now = c.as_bytes.ensures.value ∙ (c.as_str.ensures.value ∙ (c.in-Ok-unasked_of.ensures ∙ ap unasked_part c.in-Ok.ensures.cases.0)) in
    IfOk-weaker c.read_joined.result _ _
    (λ ask h. (h.0, subst (λ (t : List ℕ). IsSomeAnd (option_and_then ask_table (parse_document (ask_part t))) (λ table. Asks table h.0)) same h.1, h.2)) c.read_joined.ensures.asks

pub returns-in_default-clause-why : goal.returns-in_default-clause-why
returns-in_default-clause-why c = inr (inl (refl, is_utf8-false c.args.bytes.now c.in_default.ensures.cases.0))

pub returns-in-Ok-named-clause-why : goal.returns-in-Ok-named-clause-why
returns-in-Ok-named-clause-why c =
    let same : c.as_bytes.result.now ≡ unasked_part c.args.bytes.now = c.as_bytes.ensures.value ∙ (c.as_str.ensures.value ∙ (c.in-Ok-unasked_of.ensures ∙ ap unasked_part c.in-Ok.ensures.cases.0)) in
    unasked_for c.read_joined.result c.args.bytes.now c.as_bytes.result.now same c.read_joined.ensures.why
