use Rattle.evl_kernel.proofs.histories.MutexDrops.{settling_drops}
use Rattle.evl_kernel.proofs.laws.settling_only_drops.Goals as goal

pub returns : goal.returns
returns c = settling_drops
