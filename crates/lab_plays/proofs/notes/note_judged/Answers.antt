use Rattle.lab_plays.proofs.NoteLemmas.{judged_told}
use Rattle.lab_plays.proofs.notes.note_judged.Goals as goal

pub returns : goal.returns
returns c = judged_told c.write_judged.result c.args.name.now c.args.judged.now _ _ c.if-judged-eq0.false (rw c.as_str-said.ensures.value at c.write_judged.ensures)
