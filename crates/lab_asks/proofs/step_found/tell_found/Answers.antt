use Rattle.std.proofs.Common.{◌≡◌, IfOk, ℕ, List, Option, subst}
use Rattle.lab_orders.specs.declared.tallies.Tally.{Tally}
use Rattle.lab_asks.specs.StepOrders.{one_told, outcomes_told, state_told}
use Rattle.lab_asks.specs.declared.step_found.StepView.TheVariants as view
use Rattle.lab_streams.specs.Outputs.{Writes}
use Rattle.lab_streams.proofs.OutputLemmas.{written_as}
use Rattle.lab_asks.proofs.step_found.tell_found.Goals as goal

pub returns-in-Report-clause-writes : goal.returns-in-Report-clause-writes
returns-in-Report-clause-writes g c =
    let told = outcomes_told view.Report c.args.name.now c.args.crew.now c.args.ask.now c.args.found.now in
    rw c.in-Report.is (written_as _ (λ output. output ≡ told) _ _ _ _ (λ output. output ≡ told) c.tell_report.result (λ output h. h) c.tell_report.ensures.writes)

pub returns-in-Answers-clause-writes : goal.returns-in-Answers-clause-writes
returns-in-Answers-clause-writes g c =
    let told = outcomes_told view.Answers c.args.name.now c.args.crew.now c.args.ask.now c.args.found.now in
    rw c.in-Answers.is (written_as _ (λ output. output ≡ told) _ _ _ _ (λ output. output ≡ told) c.tell_answers.result (λ output h. h) c.tell_answers.ensures.writes)

pub returns-in-Outcome-clause-writes : goal.returns-in-Outcome-clause-writes
returns-in-Outcome-clause-writes g c =
    let found = c.args.found.now in
    rw c.in-Outcome.is (subst (λ (o : Option Tally). IfOk c.tell_one.result (Writes (λ output. output ≡ one_told c.args.name.now c.in-Outcome.number c.args.crew.now c.args.ask.now found o)
    (g.O.Stream.contents c.args.out.now) (g.O.Stream.contents c.tell_one.new.out) (g.E.Stream.contents c.args.err.now) (g.E.Stream.contents c.tell_one.new.err)))
    (rw c.as_slice.ensures.value at c.outcome_at-outcome.ensures) c.tell_one.ensures.writes)

pub returns-in-State-clause-writes : goal.returns-in-State-clause-writes
returns-in-State-clause-writes g c =
    let found = c.args.found.now in
    rw c.in-State.is (subst (λ (o : Option (List ℕ)). IfOk c.tell_state.result (Writes (λ output. output ≡ state_told c.args.name.now c.in-State.number c.args.crew.now c.args.ask.now found o)
    (g.O.Stream.contents c.args.out.now) (g.O.Stream.contents c.tell_state.new.out) (g.E.Stream.contents c.args.err.now) (g.E.Stream.contents c.tell_state.new.err)))
    (rw c.as_slice-in-State.ensures.value at c.order_at-order.ensures) c.tell_state.ensures.writes)
