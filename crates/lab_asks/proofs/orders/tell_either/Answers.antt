use Rattle.std.proofs.Common.{◌∙◌, codes, map, option_map, sym}
use Rattle.std.specs.Prelude.{unwrap_or}
use Rattle.evl_plans.specs.Told.{handler_of as told_by}
use Rattle.lab_step_texts.specs.Kinds.{asks_steps}
use Rattle.lab_asks.specs.Orders.{TellsEither, TellsText}
use Rattle.lab_asks.specs.StepOrders.{TellsSteps}
use Rattle.lab_streams.proofs.OutputLemmas.{written_as}
use Rattle.lab_asks.proofs.StepOrderLemmas.{is_first, is_second}
use Rattle.lab_asks.proofs.orders.tell_either.Goals as goal

pub returns-then-steps-clause-writes : goal.returns-then-steps-clause-writes
returns-then-steps-clause-writes g c =
    let name = unwrap_or (option_map (λ file. file.now) c.args.asked.now.file) (codes "-") in
    let bank = map told_by c.args.plans.now in
    let most = c.args.asked.now.most in
    let one = c.args.asked.now.shown in
    let text = c.args.text.now in
    written_as _ (TellsEither bank most one name text) _ _ _ _ (TellsSteps most one name text) c.tell_steps.result
    (λ output h. is_first (asks_steps text) (TellsSteps most one name text output) (TellsText bank most one name text output) (sym c.in_ok-steps.ensures ∙ c.if-steps.true) h) c.tell_steps.ensures.writes

pub returns-else-steps-clause-writes : goal.returns-else-steps-clause-writes
returns-else-steps-clause-writes g c =
    let name = unwrap_or (option_map (λ file. file.now) c.args.asked.now.file) (codes "-") in
    let bank = map told_by c.args.plans.now in
    let most = c.args.asked.now.most in
    let one = c.args.asked.now.shown in
    let text = c.args.text.now in
    written_as _ (TellsEither bank most one name text) _ _ _ _ (TellsText bank most one name text) c.tell_text.result
    (λ output h. is_second (asks_steps text) (TellsSteps most one name text output) (TellsText bank most one name text output) (sym c.in_ok-steps.ensures ∙ c.if-steps.false) h) c.tell_text.ensures.writes
