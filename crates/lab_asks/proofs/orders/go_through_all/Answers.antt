use Rattle.std.proofs.Common.{◌≡◌, ◌∙◌, Option, ℕ, ap, codes, inl, inr, map, option_map, refl, subst}
use Rattle.std.specs.Prelude.{unwrap_or}
use Rattle.evl_plans.specs.Told.{handler_of as told_by}
use Rattle.lab_orders.specs.declared.levels.OrdersError.{OrdersError}
use Rattle.lab_scenario_orders.specs.Outcomes.{CanNotTell}
use Rattle.lab_streams.specs.Endings.{line_about}
use Rattle.lab_asks.specs.Outcomes.{TellsAll, outcomes_told}
use Rattle.lab_streams.specs.Outputs.{Output}
use Rattle.lab_asks.proofs.OrderLemmas.{against_is, all_are_counted}
use Rattle.lab_streams.proofs.OutputLemmas.{told, written_as}
use Rattle.lab_asks.proofs.orders.go_through_all.Goals as goal

pub tell_answered-requires : goal.tell_answered-requires
tell_answered-requires g c =
    all_are_counted c.args.callers.now (map told_by c.args.bank.now.plans.now) c.args.ask.now.watches.items c.args.asked.now.most c.in-Ok.answered.outcomes c.in-Ok.ensures.outcomes

pub returns-in-Ok-clause-writes : goal.returns-in-Ok-clause-writes
returns-in-Ok-clause-writes g c =
    let name = unwrap_or (option_map (λ file. file.now) c.args.asked.now.file) (codes "-") in
    let view = c.args.view in
    let callers = c.args.callers.now in
    let ask = c.args.ask.now in
    let found = c.in-Ok.answered.outcomes in
    let output : Option ℕ → Output = λ place. outcomes_told view name callers ask found place in
    written_as _ (TellsAll (map told_by c.args.bank.now.plans.now) c.args.asked.now.most view name callers ask) _ _ _ _ (λ output. output ≡ outcomes_told view name callers ask found c.in-Ok.answered.against) c.tell_answered.result
    (λ o is. inl (found, c.in-Ok.ensures.outcomes, is ∙ ap output (c.in-Ok.ensures.against ∙ against_is ask found.all.items))) c.tell_answered.ensures.writes

pub returns-in-Err-Count-clause-writes : goal.returns-in-Err-Count-clause-writes
returns-in-Err-Count-clause-writes g c =
    let name = unwrap_or (option_map (λ file. file.now) c.args.asked.now.file) (codes "-") in
    told _ (TellsAll (map told_by c.args.bank.now.plans.now) c.args.asked.now.most c.args.view name c.args.callers.now c.args.ask.now) _ _ _ (line_about name (codes "more orders than can be counted"))
    c.tell_refused-told.result c.refused.result (inr (subst (λ (e : OrdersError). CanNotTell c.args.callers.now (map told_by c.args.bank.now.plans.now) e) c.in-Err-Count.field-0-is c.in-Err-Count.ensures.uncounted, refl)) (rw c.name.ensures at c.tell_refused-told.ensures.line) c.refused.ensures.status
