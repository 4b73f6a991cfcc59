use Rattle.evl_kernel.proofs.settling.PendingLaws.{due_pends}
use Rattle.evl_kernel.proofs.laws.due_means_pending.Goals as goal

pub returns : goal.returns
returns c = due_pends
