use Rattle.std.proofs.Common.{◌≡◌, ◌≤◌, ◌++◌, length, drop}
use Rattle.evl_sync.specs.Queues.{dropped_by}
use Rattle.evl_sync.proofs.arrival_queue.without.Given as goal

abbrev pub invariant-loop-number : goal.invariant-loop-number
invariant-loop-number l =
    (l.kept.items ++ dropped_by (λ t. t) l.thread (drop l.number-index l.threads) ≡ dropped_by (λ t. t) l.thread l.threads) × (length l.kept.items ≤ l.number-index)
