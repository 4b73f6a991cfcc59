use Rattle.lab_drawing.proofs.CallLaws.{step_marked}
use Rattle.lab_drawing.proofs.marks.marks_of.Goals as goal

pub returns-clause-called : goal.returns-clause-called
returns-clause-called c = step_marked

pub returns-in_err-push-clause-called : goal.returns-in_err-push-clause-called
returns-in_err-push-clause-called c = step_marked

pub returns-in_err-push-2-clause-called : goal.returns-in_err-push-2-clause-called
returns-in_err-push-2-clause-called c = step_marked

pub returns-in_err-note_lines-clause-called : goal.returns-in_err-note_lines-clause-called
returns-in_err-note_lines-clause-called c = step_marked
