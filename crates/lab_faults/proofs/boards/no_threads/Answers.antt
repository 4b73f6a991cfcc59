use Rattle.lab_faults.specs.Boards.{no_threads_text}
use Rattle.lab_faults.proofs.boards.no_threads.Goals as goal

pub returns : goal.returns
unfolding no_threads_text
returns c = rw c.in_ok-want.ensures at c.format.ensures.ok
