use Rattle.evl_scenario.proofs.Texts.{is_utf8-true, is_utf8-false}
use Rattle.lab_lines.proofs.texts.text_of.Goals as goal

pub returns-in-Ok-clause-text : goal.returns-in-Ok-clause-text
returns-in-Ok-clause-text c = (c.in-Ok.ensures.cases.0, is_utf8-true c.args.bytes.now c.in-Ok.ensures.cases.1)

pub returns-in-Err-clause-none : goal.returns-in-Err-clause-none
returns-in-Err-clause-none c = λ none. is_utf8-false c.args.bytes.now c.in-Err.ensures.cases.0
