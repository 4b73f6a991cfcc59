use Rattle.evl_kernel.proofs.settling.Walking.{step_is_stepped}
use Rattle.evl_kernel.proofs.laws.step_is_computed.Goals as goal

pub returns : goal.returns
returns c = step_is_stepped
