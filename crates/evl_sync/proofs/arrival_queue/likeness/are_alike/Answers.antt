use Rattle.std.proofs.lemmas.Slice.Eq.{slice_eq-Decides}
use Rattle.std.proofs.lemmas.Bool.Decides.{Decides-eqb}
use Rattle.evl_sync.proofs.arrival_queue.likeness.are_alike.Goals as goal

pub returns-clause-alike : goal.returns-clause-alike
returns-clause-alike c = (slice_eq-Decides Decides-eqb c.args.ours.now c.args.theirs.now c.eq.result c.eq.ensures).0

pub returns-clause-other : goal.returns-clause-other
returns-clause-other c = (slice_eq-Decides Decides-eqb c.args.ours.now c.args.theirs.now c.eq.result c.eq.ensures).1
