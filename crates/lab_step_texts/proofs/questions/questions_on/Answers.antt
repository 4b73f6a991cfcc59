use Rattle.lab_step_texts.proofs.QuestionLaws.{value_asked, value_unread}
use Rattle.lab_step_texts.proofs.questions.questions_on.Goals as goal

pub returns-in-Some-clause-asked : goal.returns-in-Some-clause-asked
returns-in-Some-clause-asked c = value_asked c.questions_in_list.result (λ all. all.items) c.args.when c.args.value.now c.in-Some.text.now c.in-Some.ensures.listed.written c.questions_in_list.ensures.asked

pub returns-in-Some-clause-unread : goal.returns-in-Some-clause-unread
returns-in-Some-clause-unread c = value_unread c.questions_in_list.result c.args.value.now c.in-Some.text.now c.in-Some.ensures.listed c.questions_in_list.ensures.unread
