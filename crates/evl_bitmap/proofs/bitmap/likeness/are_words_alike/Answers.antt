use Rattle.evl_bitmap.proofs.LikenessLaws.{bits-at}
use Rattle.evl_bitmap.proofs.bitmap.likeness.are_words_alike.Goals as goal

pub returns-then-not-is_same-clause-other : goal.returns-then-not-is_same-clause-other
returns-then-not-is_same-clause-other c long same = c.if-not-is_same.ensures.other (bits-at c.args.ours.now c.args.theirs.now c.loop-n.n c.loop-n-test.true same)
