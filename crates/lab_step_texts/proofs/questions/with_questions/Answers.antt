use Rattle.std.proofs.Common.{◌≡◌, ◌∙◌, List, ap, refl, sym}
use Rattle.lab_step_orders.specs.declared.watches.StepWatch.{StepWatch}
use Rattle.lab_step_texts.specs.Questions.{are_there}
use Rattle.lab_step_texts.proofs.QuestionLaws.{line_refused}
use Rattle.lab_step_texts.proofs.questions.with_questions.Goals as goal

pub returns-in-Ok-joined-clause-asked : goal.returns-in-Ok-joined-clause-asked
returns-in-Ok-joined-clause-asked c =
    let is = c.are_there.ensures ∙ ap (λ (l : List StepWatch). are_there c.args.board.now l) c.as_slice.ensures.value in
    (c.in-Ok.now.items, c.in-Ok-joined.ensures, c.in-Ok.ensures.asked, sym is ∙ c.if-not-are_there.false)

pub returns-then-not-are_there-clause-refused : goal.returns-then-not-are_there-clause-refused
returns-then-not-are_there-clause-refused c =
    let is = c.are_there.ensures ∙ ap (λ (l : List StepWatch). are_there c.args.board.now l) c.as_slice.ensures.value in
    (refl, (c.in-Ok.now.items, c.in-Ok.ensures.asked, sym is ∙ c.if-not-are_there.true))

pub returns-in-Err-clause-refused : goal.returns-in-Err-clause-refused
returns-in-Err-clause-refused c =
    rw c.line_fault.ensures (line_refused c.args.board.now c.args.when c.args.line.now c.args.number c.in-Err.why c.in-Err.ensures.unread)
