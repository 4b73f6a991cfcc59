use Rattle.std.proofs.Common.{◌∙◌, ◌≤◌, ℕ, List, ap, subst, sym}
use Rattle.std.specs.Prelude.{sum_by}
use Rattle.lab_orders.proofs.Totals.{total_of_ones}
use Rattle.lab_orders.specs.Machines.{orders}
use Rattle.lab_orders.specs.Weights.{count_limit}
use Rattle.lab_scenario_orders.specs.Callers.{first_seen, machine}
use Rattle.lab_scenario_orders.specs.Moments.{seen_at}
use Rattle.lab_scenario_orders.specs.Told.{told_text}
use Rattle.lab_scenario_orders.specs.declared.moments.Moment.{Moment}
use Rattle.lab_orders.specs.declared.nodes.Node.{Node}
use Rattle.lab_scenario_orders.proofs.OutcomeLaws.{too_many_orders, weight_of_ones}
use Rattle.lab_scenario_orders.proofs.outcomes.outcomes_of.Goals as goal

pub returns-in-Ok-outcomes_at-clause-outcomes : goal.returns-in-Ok-outcomes_at-clause-outcomes
returns-in-Ok-outcomes_at-clause-outcomes g c =
    let callers = c.args.callers.now in
    let bank = g.B.BankMaker.bank c.args.bank.now in
    let found = c.in-Ok.found in
    let ends = c.in-Ok.ensures in
    let told = c.in-Ok-outcomes_at.ensures in
    record {
      counted = λ f. told.sums f ∙ ends.counted (λ seen. f (told_text callers seen));
      distinct = told.distinct;
      lead = told.lead;
      rise = told.rise;
      count =
          (c.in-Ok-count_of.ensures.sum ∙ ap (λ (ends : List (Node Moment)). sum_by (λ end. end.count) ends) c.as_slice.ensures.value)
          ∙ (sym (weight_of_ones (seen_at callers bank) found.ends.items)
          ∙ (ends.counted (λ seen. 1)
          ∙ total_of_ones (orders (machine callers) (first_seen callers bank) found.steps)));
      firsts = ends.firsts;
      watched = ends.watched;
      asked = ends.asked;
      gone = ends.gone;
      whole = ends.whole;
      cut = ends.cut;
      more = ends.more;
    }

pub returns-in-Err-count_of-clause-uncounted : goal.returns-in-Err-count_of-clause-uncounted
returns-in-Err-count_of-clause-uncounted g c =
    let callers = c.args.callers.now in
    let bank = g.B.BankMaker.bank c.args.bank.now in
    let found = c.in-Ok.found in
    let all =
    ap (λ (ends : List (Node Moment)). sum_by (λ end. end.count) ends) c.as_slice.ensures.value
    ∙ (sym (weight_of_ones (seen_at callers bank) found.ends.items)
    ∙ (c.in-Ok.ensures.counted (λ seen. 1)
    ∙ total_of_ones (orders (machine callers) (first_seen callers bank) found.steps))) in
    too_many_orders callers bank found.steps c.in-Err-count_of.error (λ e. subst (λ (n : ℕ). count_limit ≤ n) all c.in-Err-count_of.ensures.uncounted)

pub returns-in-Err-outcomes_at-clause-uncounted : goal.returns-in-Err-outcomes_at-clause-uncounted
returns-in-Err-outcomes_at-clause-uncounted g c =
    let callers = c.args.callers.now in
    let bank = g.B.BankMaker.bank c.args.bank.now in
    let found = c.in-Ok.found in
    let all = c.in-Ok.ensures.counted (λ seen. 1) ∙ total_of_ones (orders (machine callers) (first_seen callers bank) found.steps) in
    too_many_orders callers bank found.steps c.in-Err-outcomes_at.error (λ e. subst (λ (n : ℕ). count_limit ≤ n) all (c.in-Err-outcomes_at.ensures.uncounted e))
