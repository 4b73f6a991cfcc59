use Rattle.std.proofs.lemmas.Slice.Eq.{slice_eq-Decides}
use Rattle.evl_mutex.proofs.LikenessLaws.{Decides-waiter}
use Rattle.evl_mutex.proofs.mutex_record.likeness.are_waiters_alike.Goals as goal

pub returns-clause-alike : goal.returns-clause-alike
returns-clause-alike c = (slice_eq-Decides Decides-waiter c.args.ours.now c.args.theirs.now c.eq.result c.eq.ensures).0

pub returns-clause-other : goal.returns-clause-other
returns-clause-other c = (slice_eq-Decides Decides-waiter c.args.ours.now c.args.theirs.now c.eq.result c.eq.ensures).1
