use Rattle.std.proofs.Common.{◌≡◌, [], length, slice_set}
use Rattle.evl_kernel.specs.state.ChangedThreads.{AreGivenBut, is_noted, of_word}
use Rattle.evl_kernel.specs.state.ElementsViews.{owners_of}
use Rattle.evl_kernel.proofs.ranks.hand_word.Given as goal

abbrev pub invariant-loop-place : goal.invariant-loop-place
invariant-loop-place g l = record {
  kept : l.sched.sched ≡ l.fn.sched.sched;
  given : AreGivenBut (is_noted l.changes) l.sched (owners_of l.elements);
  others : slice_set l.changes l.word [] ≡ slice_set l.fn.changes l.word [];
}

abbrev pub decreases-loop-place : goal.decreases-loop-place
decreases-loop-place g l = length (of_word l.changes l.word)
