use Rattle.lab_faults.specs.Boards.{no_table_text}
use Rattle.lab_faults.proofs.boards.no_table.Goals as goal

pub returns : goal.returns
unfolding no_table_text
returns c = rw c.in_ok-hint.ensures at c.format.ensures.ok
