use Rattle.std.proofs.lemmas.Bool.Decides.{Decides-eqb}
use Rattle.std.proofs.lemmas.Slice.Eq.{slice_eq-Decides}
use Rattle.evl_pipeline.proofs.LikenessLaws.{Decides-option}
use Rattle.evl_clock.proofs.clock.likeness.are_dates_alike.Goals as goal

pub returns-clause-alike : goal.returns-clause-alike
returns-clause-alike c = (slice_eq-Decides (Decides-option Decides-eqb) c.args.ours.now c.args.theirs.now c.eq.result c.eq.ensures).0

pub returns-clause-other : goal.returns-clause-other
returns-clause-other c = (slice_eq-Decides (Decides-option Decides-eqb) c.args.ours.now c.args.theirs.now c.eq.result c.eq.ensures).1
