use Rattle.evl_kernel.proofs.settling.QuietLaws.{stalled_while_pending}
use Rattle.evl_kernel.proofs.laws.oob_pends_only_while_stalled.Goals as goal

pub returns : goal.returns
returns c = stalled_while_pending
