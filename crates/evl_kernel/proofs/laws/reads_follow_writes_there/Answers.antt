use Rattle.evl_kernel.proofs.histories.TransferLaws.{reads_follow_there}
use Rattle.evl_kernel.proofs.laws.reads_follow_writes_there.Goals as goal

pub returns : goal.returns
returns c = reads_follow_there
