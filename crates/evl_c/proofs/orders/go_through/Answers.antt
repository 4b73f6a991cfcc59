use Rattle.std.proofs.Common.{◌≡◌, ◌∙◌, ℕ, Option, ap, inl, inr, map, subst}
use Rattle.evl_plans.specs.Told.{handler_of}
use Rattle.lab_orders.specs.declared.levels.OrdersError.{OrdersError}
use Rattle.lab_scenario_orders.specs.Outcomes.{CanNotTell}
use Rattle.evl_c.specs.Orders.{Answer, TellsOutcomes, outcomes_answer, refuses}
use Rattle.evl_c.proofs.OrderLemmas.{against_is, answered_as}
use Rattle.evl_c.proofs.orders.go_through.Goals as goal

pub returns-in-Ok : goal.returns-in-Ok
returns-in-Ok c =
    let one = c.args.wanted.outcome in
    let callers = c.args.callers.now in
    let ask = c.args.ask.now in
    let found = c.in-Ok.answered.outcomes in
    let answer : Option ℕ → Answer = λ place. outcomes_answer one callers ask found place in
    answered_as _ (λ (a : Answer). a ≡ answer c.in-Ok.answered.against) (TellsOutcomes (map handler_of c.args.wanted.plans.now) c.args.wanted.most one callers ask) c.tell_answered.result
    (λ a is. inl (found, c.in-Ok.ensures.outcomes, is ∙ ap answer (c.in-Ok.ensures.against ∙ against_is ask found.all.items))) c.tell_answered.ensures

pub returns-in-Err-Count : goal.returns-in-Err-Count
returns-in-Err-Count c =
    inr (subst (λ (e : OrdersError). CanNotTell c.args.callers.now (map handler_of c.args.wanted.plans.now) e) c.in-Err-Count.field-0-is c.in-Err-Count.ensures.uncounted, c.refuse.ensures ∙ ap (refuses 8 0) c.new.ensures.bytes)
