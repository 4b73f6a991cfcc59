use Rattle.std.proofs.Common.{Bor, ◌≡◌, ◌∙◌, ℕ, List, IfErr, IfOk, ap, false, map, subst}
use Rattle.std.specs.Str.Lines.{lines}
use Rattle.lab_step_texts.specs.Questions.{AreAsked, IsUnasked}
use Rattle.lab_step_texts.proofs.reading.questions_of.Goals as goal

pub returns-clause-asked : goal.returns-clause-asked
returns-clause-asked c =
    let same : map (λ line. line.now) c.as_slice.result.now ≡ lines c.args.text.now = ap (λ (all : List (Bor (List ℕ))). map (λ line. line.now) all) c.as_slice.ensures.value ∙ c.in-Ok.ensures in
    subst (λ (l : List (List ℕ)). IfOk c.questions_in.result (λ all. AreAsked false l all.items)) same c.questions_in.ensures.asked

pub returns-clause-refused : goal.returns-clause-refused
returns-clause-refused c =
    let same : map (λ line. line.now) c.as_slice.result.now ≡ lines c.args.text.now = ap (λ (all : List (Bor (List ℕ))). map (λ line. line.now) all) c.as_slice.ensures.value ∙ c.in-Ok.ensures in
    subst (λ (l : List (List ℕ)). IfErr c.questions_in.result (IsUnasked c.args.board.now l)) same c.questions_in.ensures.refused
