use Rattle.lab_faults.proofs.PieceLaws.{none_left, word_ends}
use Rattle.lab_faults.proofs.tokens.end_reading.Goals as goal

pub returns-in-Plain : goal.returns-in-Plain
returns-in-Plain c = rw (c.in-Plain.is, word_ends c.in-Plain.begun c.args.to) c.end_word.ensures

pub returns-in-Comment : goal.returns-in-Comment
returns-in-Comment c = rw c.in-Comment.is (none_left c.args.tokens.now.items c.args.to)
