use Rattle.std.proofs.Common.{◌≡◌, map, take}
use Rattle.evl_sync.specs.Semaphores as semaphores
use Rattle.evl_kernel.proofs.elements.opened_sems.Given as goal

abbrev pub invariant-loop-count : goal.invariant-loop-count
invariant-loop-count g l = l.sems.items ≡ map semaphores.opened_semaphore (take l.count-index l.counts)
