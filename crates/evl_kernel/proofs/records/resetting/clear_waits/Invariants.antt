use Rattle.std.proofs.Common.{◌≡◌, ◌++◌, None, drop, length, replicate}
use Rattle.evl_kernel.proofs.records.resetting.clear_waits.Given as goal

abbrev pub invariant-loop-i : goal.invariant-loop-i
invariant-loop-i g l = record {
  length : length l.waits.items ≡ length l.fn.waits.items;
  items : l.waits.items ≡ replicate l.i None ++ drop l.i l.fn.waits.items;
}
