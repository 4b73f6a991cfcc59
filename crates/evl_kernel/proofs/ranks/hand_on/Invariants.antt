use Rattle.std.proofs.Common.{◌≡◌, ◌<◌, [], ℕ}
use Rattle.evl_kernel.specs.state.ChangedThreads.{AreGivenBut, is_noted, of_word}
use Rattle.evl_kernel.specs.state.ElementsViews.{owners_of}
use Rattle.evl_kernel.proofs.ranks.hand_on.Given as goal

abbrev pub invariant-loop-word : goal.invariant-loop-word
invariant-loop-word g l = record {
  kept : l.sched.sched ≡ l.fn.sched.sched;
  given : AreGivenBut (is_noted l.changes) l.sched (owners_of l.elements);
  none : (w : ℕ) → w < l.word → of_word l.changes w ≡ [];
}
