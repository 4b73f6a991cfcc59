use Rattle.std.proofs.Common.{ap, subst}
use Rattle.atomic_table.specs.Table.{Me}
use Rattle.evl_words.specs.Hands.{Hand}
use Rattle.evl_words.specs.Parts.{OneWord}
use Rattle.evl_words.specs.GateWorld.{GateView}
use Rattle.evl_words.specs.GateRule.{GatePart}
use Rattle.evl_words.specs.GateCalls.{AgreeAtGate, SeatState}
use Rattle.evl_words.proofs.Endings.{joins_hands, splits_hands}
use Rattle.evl_words.proofs.GateSeats.{two_at_gate}
use Rattle.evl_words.proofs.gate.StaxGate.agree.Goals as goal

pub look_together-requires-clause-splits : goal.look_together-requires-clause-splits
look_together-requires-clause-splits g c = let key = c.self.inside.table.shared.key in splits_hands (OneWord (GatePart key.limit) key.seats)

pub look_together-requires-clause-joins : goal.look_together-requires-clause-joins
look_together-requires-clause-joins g c = let key = c.self.inside.table.shared.key in joins_hands (OneWord (GatePart key.limit) key.seats)

pub look_together-requires-clause-tells : goal.look_together-requires-clause-tells
look_together-requires-clause-tells g c = two_at_gate c.self.inside.table.shared.key.limit c.self.inside.table.shared.key.seats

pub returns-clause-agree : goal.returns-clause-agree
returns-clause-agree g c =
    subst (λ (z : SeatState × SeatState). AgreeAtGate z.0 z.1) (λ i. (c.one.view_is i, c.other.view_is i))
    (c.look_together.ensures.together _ _ (ap (λ (m : Me (Unit {0}) (Hand GateView)). m.0) c.one.invariant.0) (ap (λ (m : Me (Unit {0}) (Hand GateView)). m.0) c.other.invariant.0))
