use Rattle.std.proofs.Common.{◌≡◌, ◌∙◌, ℕ, List, ap}
use Rattle.lab_asks.specs.StepOrders.{outcomes_told, verdict}
use Rattle.lab_asks.specs.declared.step_found.StepView.TheVariants as view
use Rattle.lab_streams.proofs.OutputLemmas.{written_as}
use Rattle.lab_asks.proofs.step_found.tell_answers.Goals as goal

pub returns-in-Ok-clause-writes : goal.returns-in-Ok-clause-writes
returns-in-Ok-clause-writes g c =
    let name = c.args.name.now in
    let ask = c.args.ask.now in
    let found = c.args.found.now in
    let is = ap (λ (text : List ℕ). verdict text name ask found) (c.as_slice.ensures.value ∙ c.in-Ok.ensures) in
    written_as _ (λ output. output ≡ outcomes_told view.Answers name c.args.crew.now ask found) _ _ _ _ (λ output. output ≡ verdict c.as_slice.result.now name ask found) c.tell_printed.result (λ output h. h ∙ is)
    c.tell_printed.ensures.writes
