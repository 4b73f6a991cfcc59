use Rattle.std.proofs.Common.{◌∙◌}
use Rattle.lab_step_texts.proofs.QuestionLaws.{line_asked, line_unread, none_set}
use Rattle.lab_step_texts.proofs.questions.questions_at.Goals as goal

pub returns-in-Some-clause-asked : goal.returns-in-Some-clause-asked
returns-in-Some-clause-asked c = line_asked c.questions_on.result (λ all. all.items) c.args.when c.args.line.now c.in-Some.value.now c.in-Some.ensures c.questions_on.ensures.asked

pub returns-in-Some-clause-unread : goal.returns-in-Some-clause-unread
returns-in-Some-clause-unread c = line_unread c.questions_on.result c.args.line.now c.in-Some.value.now c.in-Some.ensures c.questions_on.ensures.unread

pub returns-in-None-clause-unread : goal.returns-in-None-clause-unread
returns-in-None-clause-unread c = λ value is. none_set value (c.in-None.ensures ∙ is)
