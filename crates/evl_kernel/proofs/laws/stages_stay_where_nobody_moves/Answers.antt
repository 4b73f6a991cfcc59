use Rattle.evl_kernel.proofs.histories.StageLaws.{stages_stay}
use Rattle.evl_kernel.proofs.laws.stages_stay_where_nobody_moves.Goals as goal

pub returns : goal.returns
returns c = stages_stay
