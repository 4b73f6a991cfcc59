use Rattle.evl_bitmap.specs.Bits.{has}
use Rattle.evl_bitmap.proofs.LikenessLaws.{same-tests}
use Rattle.evl_bitmap.proofs.word.Word.is_like.Goals as goal

pub returns-clause-other : goal.returns-clause-other
returns-clause-other c same = c.is_same.ensures.other (same-tests (has c.args.self.now.bits) (has c.args.other.now.bits) 32 same)
