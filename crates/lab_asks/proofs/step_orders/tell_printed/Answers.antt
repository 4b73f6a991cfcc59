use Rattle.std.proofs.Common.{◌≡◌, ℕ, Option, ap}
use Rattle.lab_streams.specs.Outputs.{Output}
use Rattle.lab_asks.specs.StepOrders.{asked_status, asked_text, verdict}
use Rattle.lab_streams.proofs.OutputLemmas.{written_err}
use Rattle.lab_asks.proofs.step_orders.tell_printed.Goals as goal

pub returns-clause-writes : goal.returns-clause-writes
returns-clause-writes g c =
    let printed = c.args.printed.now in
    let name = c.args.name.now in
    let ask = c.args.ask.now in
    let found = c.args.found.now in
    let output : Option ℕ → Output = λ place. record { printed = printed; said = asked_text name ask found place; status = asked_status ask found place } in
    written_err _ (λ output. output ≡ verdict printed name ask found) _ _ _ _ printed (asked_text name ask found c.against_in.result) (asked_status ask found c.against_in.result)
    c.tell_against.result (ap output c.against_in.ensures) c.in_ok-write_all.ensures.bytes c.tell_against.ensures.line c.tell_against.ensures.status
