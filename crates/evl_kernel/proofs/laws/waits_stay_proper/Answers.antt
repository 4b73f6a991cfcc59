use Rattle.evl_kernel.proofs.waiting.ProperSteps.{waits_stay}
use Rattle.evl_kernel.proofs.laws.waits_stay_proper.Goals as goal

pub returns : goal.returns
returns c = waits_stay
