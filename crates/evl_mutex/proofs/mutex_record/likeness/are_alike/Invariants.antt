use Rattle.std.proofs.Common.{◌≡◌, take}
use Rattle.evl_mutex.specs.Views.{mutexes_of}
use Rattle.evl_mutex.proofs.mutex_record.likeness.are_alike.Given as goal

abbrev pub invariant-loop-n : goal.invariant-loop-n
invariant-loop-n g l = take l.n (mutexes_of l.ours) ≡ take l.n (mutexes_of l.theirs)
