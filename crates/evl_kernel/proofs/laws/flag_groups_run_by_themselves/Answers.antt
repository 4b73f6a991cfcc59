use Rattle.evl_kernel.proofs.histories.OwnRunLaws.{flags_by_themselves}
use Rattle.evl_kernel.proofs.laws.flag_groups_run_by_themselves.Goals as goal

pub returns : goal.returns
returns c = flags_by_themselves
