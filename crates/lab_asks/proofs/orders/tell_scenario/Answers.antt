use Rattle.std.proofs.Common.{◌≡◌, ◌++◌, None, Some, codes, decimal, option_map, refl}
use Rattle.std.specs.Prelude.{unwrap_or}
use Rattle.lab_streams.specs.Endings.{line_about}
use Rattle.lab_asks.specs.Orders.{scenario_of, scenario_told}
use Rattle.lab_asks.specs.Verdicts.{asked_status, asked_text}
use Rattle.lab_streams.proofs.OutputLemmas.{said, written_err}
use Rattle.lab_asks.proofs.orders.tell_scenario.Goals as goal

pub returns-in_ok-print_scenario-in-Some-clause-writes : goal.returns-in_ok-print_scenario-in-Some-clause-writes
returns-in_ok-print_scenario-in-Some-clause-writes g c =
    let name = unwrap_or (option_map (λ file. file.now) c.args.asked.now.file) (codes "-") in
    let callers = c.args.callers.now in
    let ask = c.args.ask.now in
    let found = c.args.answered.now.outcomes in
    let place = c.args.answered.now.against in
    let one = c.in-Some.found.now in
    rw c.in-Some.is (written_err _ (λ output. output ≡ scenario_told name c.args.number callers ask found place (Some one)) _ _ _ _ (scenario_of callers one) (asked_text name ask found place)
    (asked_status ask found place) c.tell_against.result refl c.in_ok-print_scenario-in-Some.ensures.text (rw c.name.ensures at c.tell_against.ensures.line) c.tell_against.ensures.status)

pub returns-in-None-clause-writes : goal.returns-in-None-clause-writes
returns-in-None-clause-writes g c =
    let name = unwrap_or (option_map (λ file. file.now) c.args.asked.now.file) (codes "-") in
    rw c.in-None.is (said _ (λ output. output ≡ scenario_told name c.args.number c.args.callers.now c.args.ask.now c.args.answered.now.outcomes c.args.answered.now.against None) _ _ _ 2
    (line_about name (codes "there is no outcome " ++ decimal c.args.number)) c.tell_no_outcome.result refl (rw c.name-in-None.ensures at c.tell_no_outcome.ensures.line) c.tell_no_outcome.ensures.status)
