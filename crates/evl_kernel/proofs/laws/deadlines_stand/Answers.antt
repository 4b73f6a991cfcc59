use Rattle.evl_kernel.proofs.waiting.DeadlineLaws.{deadlines_are}
use Rattle.evl_kernel.proofs.laws.deadlines_stand.Goals as goal

pub returns : goal.returns
returns c = deadlines_are
