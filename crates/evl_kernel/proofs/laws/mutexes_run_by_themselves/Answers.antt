use Rattle.evl_kernel.proofs.histories.OwnRunLaws.{mutexes_by_themselves}
use Rattle.evl_kernel.proofs.laws.mutexes_run_by_themselves.Goals as goal

pub returns : goal.returns
returns c = mutexes_by_themselves
