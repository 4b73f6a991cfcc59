use Rattle.std.proofs.Common.{◌≡◌, codes, option_map, refl}
use Rattle.std.specs.Prelude.{unwrap_or}
use Rattle.lab_asks.specs.Outcomes.{answers_of, answers_told}
use Rattle.lab_asks.specs.Verdicts.{asked_status, asked_text}
use Rattle.lab_streams.proofs.OutputLemmas.{written_err}
use Rattle.lab_asks.proofs.answers.tell_answers.Goals as goal

pub returns-clause-writes : goal.returns-clause-writes
returns-clause-writes g c =
    let name = unwrap_or (option_map (λ file. file.now) c.args.asked.now.file) (codes "-") in
    let callers = c.args.callers.now in
    let ask = c.args.ask.now in
    let found = c.args.answered.now.outcomes in
    let place = c.args.answered.now.against in
    written_err _ (λ output. output ≡ answers_told name callers ask found place) _ _ _ _ (answers_of callers found) (asked_text name ask found place) (asked_status ask found place)
    c.tell_against.result refl c.in_ok-print_answers.ensures.text (rw c.name.ensures at c.tell_against.ensures.line) c.tell_against.ensures.status
