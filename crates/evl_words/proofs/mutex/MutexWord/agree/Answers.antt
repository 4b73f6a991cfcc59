use Rattle.std.proofs.Common.{ap, subst}
use Rattle.atomic_table.specs.Table.{Me}
use Rattle.evl_words.specs.Hands.{Hand}
use Rattle.evl_words.specs.Parts.{OneWord}
use Rattle.evl_words.specs.MutexWorld.{MutexView}
use Rattle.evl_words.specs.MutexRule.{MutexPart}
use Rattle.evl_words.specs.MutexCalls.{AgreeAtMutex, MutexSeatState}
use Rattle.evl_words.proofs.Endings.{joins_hands, splits_hands}
use Rattle.evl_words.proofs.MutexSeats.{agree_at_mutex, two_at_mutex}
use Rattle.evl_words.proofs.mutex.MutexWord.agree.Goals as goal

pub look_together-requires-clause-splits : goal.look_together-requires-clause-splits
look_together-requires-clause-splits g c = splits_hands (OneWord MutexPart c.self.inside.table.shared.key.seats)

pub look_together-requires-clause-joins : goal.look_together-requires-clause-joins
look_together-requires-clause-joins g c = joins_hands (OneWord MutexPart c.self.inside.table.shared.key.seats)

pub look_together-requires-clause-tells : goal.look_together-requires-clause-tells
look_together-requires-clause-tells g c = two_at_mutex c.self.inside.table.shared.key.seats

pub returns-clause-agree : goal.returns-clause-agree
returns-clause-agree g c =
    subst (λ (z : MutexSeatState × MutexSeatState). AgreeAtMutex z.0 z.1) (λ i. (c.one.view_is i, c.other.view_is i))
    (agree_at_mutex _ _ c.one.invariant.1 c.other.invariant.1
    (c.look_together.ensures.together _ _ (ap (λ (m : Me (Unit {0}) (Hand MutexView)). m.0) c.one.invariant.0) (ap (λ (m : Me (Unit {0}) (Hand MutexView)). m.0) c.other.invariant.0)))
