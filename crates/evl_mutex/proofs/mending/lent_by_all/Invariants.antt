use Rattle.std.proofs.Common.{◌≡◌, drop, slice_index}
use Rattle.evl_mutex.specs.Views.{ahead_in, waiters_of}
use Rattle.evl_mutex.proofs.LendingLaws.{IsLentBelow}
use Rattle.evl_mutex.proofs.mending.lent_by_all.Given as goal

abbrev pub invariant-loop-from : goal.invariant-loop-from
invariant-loop-from g l = record {
  lent : IsLentBelow (slice_index l.base.items) (ahead_in l.ahead.items) (slice_index l.lent.items) l.thread l.rank l.from;
  rest : l.many ≡ waiters_of l.ahead.items l.thread → l.left ≡ waiters_of (drop l.from l.ahead.items) l.thread;
}
