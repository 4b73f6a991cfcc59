use Rattle.evl_kernel.proofs.histories.OwnRunLaws.{by_themselves}
use Rattle.evl_kernel.proofs.laws.semaphores_run_by_themselves.Goals as goal

pub returns : goal.returns
returns c = by_themselves
