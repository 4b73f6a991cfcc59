use Rattle.std.proofs.Common.{rules}
use Rattle.std.proofs.lemmas.Slice.Eq.{slice_eq-Decides}
use Rattle.evl_sched.proofs.LikeLaws.{option_decides}
use Rattle.evl_sched.proofs.sched.readers.are_same_seats.Goals as goal

pub returns-clause-same : goal.returns-clause-same
returns-clause-same c = (slice_eq-Decides (option_decides _ (λ a b. (search rules, search rules))) c.args.one.now c.args.other.now c.eq.result c.eq.ensures).0

pub returns-clause-other : goal.returns-clause-other
returns-clause-other c = (slice_eq-Decides (option_decides _ (λ a b. (search rules, search rules))) c.args.one.now c.args.other.now c.eq.result c.eq.ensures).1
