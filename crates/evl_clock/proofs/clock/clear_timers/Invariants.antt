use Rattle.std.proofs.Common.{◌≡◌, ◌++◌, None, drop, length, replicate}
use Rattle.evl_clock.proofs.clock.clear_timers.Given as goal

abbrev pub invariant-loop-place : goal.invariant-loop-place
invariant-loop-place g l = record {
  length : length l.timers.items ≡ length l.fn.timers.items;
  items : l.timers.items ≡ replicate l.place None ++ drop l.place l.fn.timers.items;
}
