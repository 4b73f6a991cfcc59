use Rattle.std.proofs.Common.{◌≡◌, ◌∙◌, ◌++◌, ℕ, List, None, Some, ap, codes, decimal, refl}
use Rattle.lab_streams.specs.Endings.{line_about}
use Rattle.lab_asks.specs.StepOrders.{lines_of, one_told, verdict}
use Rattle.lab_streams.proofs.OutputLemmas.{said, written_as}
use Rattle.lab_asks.proofs.step_found.tell_one.Goals as goal

pub returns-in-Some-clause-writes : goal.returns-in-Some-clause-writes
returns-in-Some-clause-writes g c =
    let name = c.args.name.now in
    let crew = c.args.crew.now in
    let ask = c.args.ask.now in
    let found = c.args.found.now in
    let one = c.in-Some.one.now in
    let is = ap (λ (order : List ℕ). verdict (lines_of crew order) name ask found) c.as_slice-order.ensures.value in
    rw c.in-Some.is (written_as _ (λ output. output ≡ one_told name c.args.number crew ask found (Some one)) _ _ _ _ (λ output. output ≡ verdict (lines_of crew c.as_slice-order.result.now) name ask found)
    c.tell_lines.result (λ output h. h ∙ is) c.tell_lines.ensures.writes)

pub returns-in-None-clause-writes : goal.returns-in-None-clause-writes
returns-in-None-clause-writes g c =
    let name = c.args.name.now in
    rw c.in-None.is (said _ (λ output. output ≡ one_told name c.args.number c.args.crew.now c.args.ask.now c.args.found.now None) _ _ _ 2
    (line_about name (codes "there is no outcome " ++ decimal c.args.number)) c.tell_no_outcome.result refl c.tell_no_outcome.ensures.line c.tell_no_outcome.ensures.status)
