use Rattle.lab_faults.specs.Boards.{unknown_key_text}
use Rattle.lab_faults.proofs.boards.unknown_key.Goals as goal

pub returns : goal.returns
unfolding unknown_key_text
returns c = rw c.in_ok-hint.ensures at c.format.ensures.ok
