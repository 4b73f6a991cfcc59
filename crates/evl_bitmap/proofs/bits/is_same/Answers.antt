use Rattle.std.proofs.lemmas.Bool.Decides.{Decides-eqb}
use Rattle.evl_bitmap.proofs.LikenessLaws.{word-same}
use Rattle.evl_bitmap.proofs.bits.is_same.Goals as goal

pub returns-clause-other : goal.returns-clause-other
returns-clause-other c same = (Decides-eqb c.args.bits c.args.others).1 (word-same c.args.bits c.args.others c.ranges.bits.fits c.ranges.others.fits same)
