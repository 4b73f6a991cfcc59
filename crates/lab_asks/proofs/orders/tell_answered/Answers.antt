use Rattle.std.proofs.Common.{◌≡◌, IfOk, List, ℕ, Option, codes, option_map, subst}
use Rattle.std.specs.Prelude.{unwrap_or}
use Rattle.lab_orders.specs.declared.tallies.Tally.{Tally}
use Rattle.lab_asks.specs.Outcomes.{scenario_told, state_told}
use Rattle.lab_streams.specs.Outputs.{Writes}
use Rattle.lab_asks.proofs.orders.tell_answered.Goals as goal

pub returns-in-Outcome-clause-writes : goal.returns-in-Outcome-clause-writes
returns-in-Outcome-clause-writes g c =
    let name = unwrap_or (option_map (λ file. file.now) c.args.asked.now.file) (codes "-") in
    let found = c.args.answered.now.outcomes in
    rw c.in-Outcome.is (subst (λ (o : Option Tally). IfOk c.tell_scenario.result (Writes (λ output. output ≡ scenario_told name c.in-Outcome.number c.args.callers.now c.args.ask.now found c.args.answered.now.against o)
    (g.O.Stream.contents c.args.out.now) (g.O.Stream.contents c.tell_scenario.new.out) (g.E.Stream.contents c.args.err.now) (g.E.Stream.contents c.tell_scenario.new.err)))
    (rw c.as_slice.ensures.value at c.outcome_at-outcome.ensures) c.tell_scenario.ensures.writes)

pub returns-in-State-clause-writes : goal.returns-in-State-clause-writes
returns-in-State-clause-writes g c =
    let name = unwrap_or (option_map (λ file. file.now) c.args.asked.now.file) (codes "-") in
    let found = c.args.answered.now.outcomes in
    rw c.in-State.is (subst (λ (o : Option (List ℕ)). IfOk c.tell_state.result (Writes (λ output. output ≡ state_told name c.in-State.number c.args.callers.now c.args.ask.now found c.args.answered.now.against o)
    (g.O.Stream.contents c.args.out.now) (g.O.Stream.contents c.tell_state.new.out) (g.E.Stream.contents c.args.err.now) (g.E.Stream.contents c.tell_state.new.err)))
    (rw c.as_slice-in-State.ensures.value at c.order_at-order.ensures) c.tell_state.ensures.writes)
