use Rattle.evl_kernel.proofs.histories.StageLaws.{stages_are}
use Rattle.evl_kernel.proofs.laws.stages_are_the_threads_own.Goals as goal

pub returns : goal.returns
returns c = stages_are
