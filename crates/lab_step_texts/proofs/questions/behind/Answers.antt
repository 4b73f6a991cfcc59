use Rattle.std.proofs.Common.{◌++◌, ◌∙◌, List, ℕ, ap, sym}
use Rattle.lab_step_texts.proofs.questions.behind.Goals as goal

pub returns-in-Some : goal.returns-in-Some
returns-in-Some c =
    let found = c.in-Some.ensures.cases in
    found.1.1 ∙ ap (λ (l : List ℕ). c.args.front.now ++ l) (sym found.2)

pub returns-in-None : goal.returns-in-None
returns-in-None c = c.in-None.ensures.cases
