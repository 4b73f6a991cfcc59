use Rattle.evl_kernel.proofs.histories.OwnRunLaws.{xbufs_by_themselves}
use Rattle.evl_kernel.proofs.laws.cross_buffers_run_by_themselves.Goals as goal

pub returns : goal.returns
returns c = xbufs_by_themselves
