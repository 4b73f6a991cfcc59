use Rattle.std.proofs.Common.{Bor, ◌≡◌, ◌∙◌, List, ℕ, ap, codes, map, subst, sym}
use Rattle.lab_step_texts.specs.Questions.{IsParted, joined_by}
use Rattle.lab_step_texts.proofs.QuestionLaws.{listed_asked, listed_unread}
use Rattle.lab_step_texts.proofs.questions.questions_in_list.Goals as goal

pub returns-clause-asked : goal.returns-clause-asked
returns-clause-asked c =
    listed_asked c.questions.result (λ all. all.items) c.args.when _ c.args.text.now
    (ap (λ (l : List (Bor (List ℕ))). joined_by (codes "\", \"") (map (λ one. one.now) l)) c.as_slice.ensures.value ∙ c.in-Ok.ensures.written) c.questions.ensures.texts c.questions.ensures.are

pub returns-clause-unread : goal.returns-clause-unread
returns-clause-unread c =
    listed_unread c.questions.result _ c.args.text.now
    (subst (λ (l : List (Bor (List ℕ))). IsParted (codes "\", \"") c.args.text.now (map (λ one. one.now) l)) (sym c.as_slice.ensures.value) c.in-Ok.ensures) c.questions.ensures.unread
