use Rattle.std.proofs.Common.{◌≡◌, codes, inl, inr, option_map, refl, subst}
use Rattle.std.specs.Prelude.{unwrap_or}
use Rattle.lab_orders.specs.declared.levels.OrdersError.{OrdersError}
use Rattle.lab_step_orders.specs.Outcomes.{CanNotTell}
use Rattle.lab_streams.specs.Endings.{line_about}
use Rattle.lab_asks.specs.StepOrders.{TellsFound, outcomes_told}
use Rattle.lab_asks.proofs.StepOrderLemmas.{all_are_counted}
use Rattle.lab_streams.proofs.OutputLemmas.{told, written_as}
use Rattle.lab_asks.proofs.step_orders.go_through.Goals as goal

pub tell_found-requires : goal.tell_found-requires
tell_found-requires g c = all_are_counted c.args.crew.now c.args.asked.now.most c.in-Ok.found c.in-Ok.ensures.outcomes

pub returns-in-Ok-clause-writes : goal.returns-in-Ok-clause-writes
returns-in-Ok-clause-writes g c =
    let name = unwrap_or (option_map (λ file. file.now) c.args.asked.now.file) (codes "-") in
    let one = c.args.view in
    let crew = c.args.crew.now in
    let ask = c.args.ask.now in
    let found = c.in-Ok.found in
    written_as _ (TellsFound c.args.asked.now.most one name crew ask) _ _ _ _ (λ output. output ≡ outcomes_told one name crew ask found) c.tell_found.result
    (λ o is. inl (found, c.in-Ok.ensures.outcomes, is)) (rw c.name.ensures at c.tell_found.ensures.writes)

pub returns-in-Err-Count-clause-writes : goal.returns-in-Err-Count-clause-writes
returns-in-Err-Count-clause-writes g c =
    let name = unwrap_or (option_map (λ file. file.now) c.args.asked.now.file) (codes "-") in
    told _ (TellsFound c.args.asked.now.most c.args.view name c.args.crew.now c.args.ask.now) _ _ _ (line_about name (codes "more orders than can be counted"))
    c.tell_refused-told.result c.refused.result (inr (subst (λ (e : OrdersError). CanNotTell c.args.crew.now e) c.in-Err-Count.field-0-is c.in-Err-Count.ensures.uncounted, refl)) (rw c.name-in-Err-Count.ensures at c.tell_refused-told.ensures.line) c.refused.ensures.status
