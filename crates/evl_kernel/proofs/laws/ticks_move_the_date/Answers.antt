use Rattle.evl_kernel.proofs.histories.DateLaws.{ticks_move}
use Rattle.evl_kernel.proofs.laws.ticks_move_the_date.Goals as goal

pub returns : goal.returns
returns c = ticks_move
