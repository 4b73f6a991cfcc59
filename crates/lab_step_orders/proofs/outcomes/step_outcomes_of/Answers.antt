use Rattle.std.proofs.Common.{◌∙◌, ◌≤◌, ℕ, List, ap, subst, sym}
use Rattle.std.specs.Prelude.{sum_by}
use Rattle.lab_orders.proofs.Totals.{total_of_ones}
use Rattle.lab_orders.specs.Machines.{orders}
use Rattle.lab_orders.specs.Weights.{count_limit}
use Rattle.lab_step_orders.specs.Moments.{seen_of}
use Rattle.lab_step_orders.specs.Outcomes.{told_text}
use Rattle.lab_step_orders.specs.Seen.{Seen, first_seen, machine}
use Rattle.lab_step_orders.specs.declared.moments.Moment.{Moment}
use Rattle.lab_orders.specs.declared.nodes.Node.{Node}
use Rattle.lab_step_orders.proofs.OutcomeLaws.{too_many_orders, weight_of_ones}
use Rattle.lab_step_orders.proofs.outcomes.step_outcomes_of.Goals as goal

pub returns-in-Ok-outcomes_at-clause-outcomes : goal.returns-in-Ok-outcomes_at-clause-outcomes
returns-in-Ok-outcomes_at-clause-outcomes c =
    let crew = c.args.crew.now in
    let found = c.in-Ok.found in
    let ends = c.in-Ok.ensures in
    let told = c.in-Ok-outcomes_at.ensures in
    record {
      counted = λ f. told.sums f ∙ ends.counted (λ (s : Seen). f (told_text crew s));
      distinct = told.distinct;
      lead = told.lead;
      rise = told.rise;
      count =
          (c.in-Ok-count_of.ensures.sum ∙ ap (λ (ends : List (Node Moment)). sum_by (λ end. end.count) ends) c.as_slice.ensures.value)
          ∙ (sym (weight_of_ones (seen_of crew) found.ends.items)
          ∙ (ends.counted (λ seen. 1)
          ∙ total_of_ones (orders (machine crew) (first_seen crew) found.steps)));
      gone = ends.gone;
      whole = ends.whole;
      cut = ends.cut;
      more = ends.more;
      asked = ends.firsts;
      each = ends.each;
    }

pub returns-in-Err-count_of-clause-uncounted : goal.returns-in-Err-count_of-clause-uncounted
returns-in-Err-count_of-clause-uncounted c =
    let crew = c.args.crew.now in
    let found = c.in-Ok.found in
    let all =
    ap (λ (ends : List (Node Moment)). sum_by (λ end. end.count) ends) c.as_slice.ensures.value
    ∙ (sym (weight_of_ones (seen_of crew) found.ends.items)
    ∙ (c.in-Ok.ensures.counted (λ seen. 1)
    ∙ total_of_ones (orders (machine crew) (first_seen crew) found.steps))) in
    too_many_orders crew found.steps c.in-Err-count_of.error (λ e. subst (λ (n : ℕ). count_limit ≤ n) all c.in-Err-count_of.ensures.uncounted)

pub returns-in-Err-outcomes_at-clause-uncounted : goal.returns-in-Err-outcomes_at-clause-uncounted
returns-in-Err-outcomes_at-clause-uncounted c =
    let crew = c.args.crew.now in
    let found = c.in-Ok.found in
    let all = c.in-Ok.ensures.counted (λ seen. 1) ∙ total_of_ones (orders (machine crew) (first_seen crew) found.steps) in
    too_many_orders crew found.steps c.in-Err-outcomes_at.error (λ e. subst (λ (n : ℕ). count_limit ≤ n) all (c.in-Err-outcomes_at.ensures.uncounted e))
