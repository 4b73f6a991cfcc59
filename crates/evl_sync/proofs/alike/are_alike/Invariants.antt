use Rattle.std.proofs.Common.{◌≡◌, take}
use Rattle.evl_sync.proofs.alike.are_alike.Given as goal

abbrev pub invariant-loop-n : goal.invariant-loop-n
invariant-loop-n g l = take l.n l.ours ≡ take l.n l.theirs
