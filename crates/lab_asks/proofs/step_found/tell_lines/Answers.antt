use Rattle.std.proofs.Common.{◌≡◌, ◌∙◌, ℕ, List, ap}
use Rattle.lab_asks.specs.StepOrders.{lines_of, verdict}
use Rattle.lab_streams.proofs.OutputLemmas.{written_as}
use Rattle.lab_asks.proofs.step_found.tell_lines.Goals as goal

pub returns-in-Ok-clause-writes : goal.returns-in-Ok-clause-writes
returns-in-Ok-clause-writes g c =
    let name = c.args.name.now in
    let ask = c.args.ask.now in
    let found = c.args.found.now in
    let is = ap (λ (text : List ℕ). verdict text name ask found) (c.as_bytes.ensures.value ∙ c.in-Ok.ensures) in
    written_as _ (λ output. output ≡ verdict (lines_of c.args.crew.now c.args.order.now) name ask found) _ _ _ _ (λ output. output ≡ verdict c.as_bytes.result.now name ask found) c.tell_printed.result (λ output h. h ∙ is)
    c.tell_printed.ensures.writes
