use Rattle.std.proofs.Common.{◌≡◌, None, replicate}
use Rattle.evl_kernel.proofs.records.no_waits.Given as goal

abbrev pub invariant-loop : goal.invariant-loop
invariant-loop g l = l.waits.items ≡ replicate l.counter None
