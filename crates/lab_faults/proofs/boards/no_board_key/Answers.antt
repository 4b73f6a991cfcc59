use Rattle.lab_faults.specs.Boards.{no_board_key_text}
use Rattle.lab_faults.proofs.boards.no_board_key.Goals as goal

pub returns : goal.returns
unfolding no_board_key_text
returns c = rw c.in_ok-hint.ensures at c.format.ensures.ok
