use Rattle.evl_kernel.proofs.histories.MutexDrops.{others_drop}
use Rattle.evl_kernel.proofs.laws.others_only_drop.Goals as goal

pub returns : goal.returns
returns c = others_drop
