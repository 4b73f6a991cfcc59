use Rattle.std.proofs.Common.{◌≡◌, ◌+◌, ◌++◌, Some, length, map, take}
use Rattle.evl_c.specs.HostCalls.{host_held}
use Rattle.evl_c.proofs.machines.put_all.Given as goal

abbrev pub invariant-loop-host : goal.invariant-loop-host
invariant-loop-host l = record {
  put : map host_held (take l.place l.callers) ++ map (λ h. Some h) l.host-iterator.rest.items ≡ map (λ h. Some h) l.fn.hosts.items;
  place : l.place + length l.host-iterator.rest.items ≡ length l.callers;
  count : length l.callers ≡ length l.initial.callers;
}
