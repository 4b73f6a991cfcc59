use Rattle.std.proofs.Common.{◌≡◌, take}
use Rattle.evl_bitmap.proofs.bitmap.likeness.are_words_alike.Given as goal

abbrev pub invariant-loop-n : goal.invariant-loop-n
invariant-loop-n l = take l.n l.ours ≡ take l.n l.theirs
