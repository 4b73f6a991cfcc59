use Rattle.std.proofs.Common.{◌≡◌, None, length, map, replicate, take}
use Rattle.evl_c.specs.HostCalls.{host_held}
use Rattle.evl_c.proofs.machines.free_all.Given as goal

abbrev pub invariant-loop-place : goal.invariant-loop-place
invariant-loop-place l = record {
  free : map host_held (take l.place l.callers) ≡ replicate l.place None;
  count : length l.callers ≡ length l.initial.callers;
}
