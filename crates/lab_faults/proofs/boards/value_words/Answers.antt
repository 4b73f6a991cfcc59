use Rattle.lab_faults.specs.Boards.{value_text}
use Rattle.lab_faults.proofs.boards.value_words.Goals as goal

pub returns : goal.returns
unfolding value_text
returns c = rw c.in_ok-want.ensures at c.format.ensures.ok
