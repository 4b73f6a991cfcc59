use Rattle.std.proofs.Common.{◌≡◌, codes, inl, inr, map, option_map, refl, subst}
use Rattle.std.specs.Prelude.{unwrap_or}
use Rattle.evl_plans.specs.Told.{handler_of as told_by}
use Rattle.lab_orders.specs.declared.levels.OrdersError.{OrdersError}
use Rattle.lab_scenario_orders.specs.Outcomes.{CanNotTell}
use Rattle.lab_streams.specs.Endings.{line_about}
use Rattle.lab_asks.specs.Alone.{TellsVerdict, verdict_told}
use Rattle.lab_streams.proofs.OutputLemmas.{told, written_as}
use Rattle.lab_asks.proofs.alone.go_alone.Goals as goal

pub returns-in-Ok-clause-writes : goal.returns-in-Ok-clause-writes
returns-in-Ok-clause-writes g c =
    let name = unwrap_or (option_map (λ file. file.now) c.args.asked.now.file) (codes "-") in
    let callers = c.args.callers.now in
    let ask = c.args.ask.now in
    let found = c.in-Ok.found in
    written_as _ (TellsVerdict (map told_by c.args.bank.now.plans.now) c.args.asked.now.most name callers ask) _ _ _ _ (λ output. output ≡ verdict_told name ask found) c.tell_found.result
    (λ o is. inl (found, c.in-Ok.ensures.verdict, is)) c.tell_found.ensures.writes

pub returns-in-Err-Count-clause-writes : goal.returns-in-Err-Count-clause-writes
returns-in-Err-Count-clause-writes g c =
    let name = unwrap_or (option_map (λ file. file.now) c.args.asked.now.file) (codes "-") in
    told _ (TellsVerdict (map told_by c.args.bank.now.plans.now) c.args.asked.now.most name c.args.callers.now c.args.ask.now) _ _ _ (line_about name (codes "more orders than can be counted"))
    c.tell_refused-told.result c.refused.result (inr (subst (λ (e : OrdersError). CanNotTell c.args.callers.now (map told_by c.args.bank.now.plans.now) e) c.in-Err-Count.field-0-is c.in-Err-Count.ensures.uncounted, refl)) (rw c.name.ensures at c.tell_refused-told.ensures.line) c.refused.ensures.status
