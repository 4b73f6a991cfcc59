use Rattle.std.proofs.Common.{◌≡◌, ◌++◌, map, take, drop, length}
use Rattle.evl_sync.specs.Semaphores as semaphores
use Rattle.evl_kernel.proofs.elements.resetting.reset_sems.Given as goal

abbrev pub invariant-loop-i : goal.invariant-loop-i
invariant-loop-i g l = record {
  length : length l.sems.items ≡ length l.fn.sems.items;
  items : l.sems.items ≡ map semaphores.opened_semaphore (take l.i l.counts) ++ drop l.i l.fn.sems.items;
}
