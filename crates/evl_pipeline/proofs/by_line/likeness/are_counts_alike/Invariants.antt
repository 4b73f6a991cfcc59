use Rattle.evl_pipeline.proofs.LikenessLaws.{AreAlike}
use Rattle.evl_pipeline.proofs.by_line.likeness.are_counts_alike.Given as goal

abbrev pub invariant-loop-line : goal.invariant-loop-line
invariant-loop-line g l = AreAlike 0 l.ours.items l.theirs.items l.line
