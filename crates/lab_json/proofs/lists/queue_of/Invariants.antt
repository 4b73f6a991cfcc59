use Rattle.std.proofs.Common.{◌≡◌, ◌++◌, ◌-◌, drop, length}
use Rattle.evl_kernel.specs.waiting.Standing.{queue_of}
use Rattle.lab_json.proofs.lists.queue_of.Given as goal

abbrev pub invariant-loop-thread : goal.invariant-loop-thread
invariant-loop-thread g l =
    l.all.items ++ drop (length l.all.items) (queue_of l.kernel.history.state.elements l.on) ≡ queue_of l.kernel.history.state.elements l.on

abbrev pub decreases-loop-thread : goal.decreases-loop-thread
decreases-loop-thread g l = length (queue_of l.kernel.history.state.elements l.on) - length l.all.items
