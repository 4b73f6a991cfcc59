use Rattle.std.proofs.Common.{◌≡◌}
use Rattle.evl_kernel.proofs.records.Records.begin_wait.Goals as goal

pub returns-in-Write-clause-served : goal.returns-in-Write-clause-served
returns-in-Write-clause-served g c = rw c.in-Write.is (rw c.as_slice.ensures.value at c.begin_write.ensures.begun)
