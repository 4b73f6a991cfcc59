use Rattle.std.proofs.Common.{◌≡◌, ◌∙◌, ◌-◌, IfOk, List, Option, ap, slice_get, subst}
use Rattle.lab_orders.specs.declared.tallies.Tally.{Tally}
use Rattle.evl_c.specs.Orders.{answer_in, outcomes_answer, scenario_answer}
use Rattle.evl_c.proofs.OrderLemmas.{answered_as, one_answer}
use Rattle.evl_c.proofs.orders.tell_answered.Goals as goal

pub returns : goal.returns
returns c =
    let callers = c.args.callers.now in
    let asks = c.args.ask.now in
    let found = c.args.answered.now.outcomes in
    let place = c.args.answered.now.against in
    let one = c.args.one in
    let got = c.outcome_at-outcome.ensures ∙ ap (λ (all : List Tally). slice_get all (one - 1)) c.as_slice.ensures.value in
    answered_as _ (λ a. a ≡ scenario_answer callers asks found place (slice_get found.all.items (one - 1))) (λ a. a ≡ outcomes_answer one callers asks found place) c.tell_scenario.result
    (λ a is. is ∙ one_answer one callers asks found place c.if-one-eq0.false)
    (subst (λ (o : Option Tally). IfOk c.tell_scenario.result (λ told. answer_in told ≡ scenario_answer callers asks found place o)) got c.tell_scenario.ensures)
