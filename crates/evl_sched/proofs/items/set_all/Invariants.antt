use Rattle.std.proofs.Common.{◌≡◌, ◌++◌, drop, length, replicate}
use Rattle.evl_sched.proofs.items.set_all.Given as goal

abbrev pub invariant-loop-i : goal.invariant-loop-i
invariant-loop-i g l = record {
  length : length l.items.items ≡ length l.fn.items.items;
  items : l.items.items ≡ replicate l.i l.item ++ drop l.i l.fn.items.items;
}
