use Rattle.std.proofs.Common.{◌≡◌, ◌++◌, ◌∷◌, [], List, sym, ap, ◌∙◌, subst}
use Rattle.std.specs.Prelude.{All}
use Rattle.evl_words.specs.Endings.{EndsWith}
use Rattle.evl_words.specs.Parts.{OneWord}
use Rattle.evl_words.specs.GateRule.{GatePart, GateRule}
use Rattle.evl_words.specs.GateCalls.{GateState, SeatState, IsSeatOf, place_of, Closes}
use Rattle.evl_words.proofs.Endings.{joined_back, joins_hands}
use Rattle.evl_words.proofs.Sequences.{all_at, all_front}
use Rattle.evl_words.proofs.GateEnds.{ends_with}
use Rattle.evl_words.proofs.gate.StaxGate.close.Goals as goal

pub close_with-requires-clause-joins : goal.close_with-requires-clause-joins
close_with-requires-clause-joins g c = let key = c.self.inside.table.shared.key in joins_hands (OneWord (GatePart key.limit) key.seats)

pub close_with-requires-clause-seats : goal.close_with-requires-clause-seats
close_with-requires-clause-seats g c =
    let t = c.self.inside.table.shared in
    let table = sym (ap (λ (z : GateState). z.table) c.self.view_is) in
    all_front (λ (z : SeatState). IsSeatOf z c.args.self) (λ (z : SeatState). z.table ≡ t.table_id) (λ z mine. mine.table ∙ table) c.pop.new.self.items c.in-Some.last (subst (λ l. All (λ (z : SeatState). IsSeatOf z c.args.self) l) c.in-Some.ensures.items c.requires)

pub close_with-requires-clause-last : goal.close_with-requires-clause-last
close_with-requires-clause-last g c =
    let mine = all_at (λ (z : SeatState). IsSeatOf z c.args.self) c.pop.new.self.items c.in-Some.last [] (subst (λ l. All (λ (z : SeatState). IsSeatOf z c.args.self) l) c.in-Some.ensures.items c.requires) in
    mine.table ∙ sym (ap (λ (z : GateState). z.table) c.self.view_is)

pub returns-in-Some : goal.returns-in-Some
returns-in-Some g c =
    let t = c.self.inside.table.shared in
    let gate : GateState = record { table = t.table_id; id = c.self.inside.id; limit = t.key.limit; seats = t.key.seats } in
    let same : gate ≡ c.args.self = (λ i. record { table = t.table_id; id = c.self.inside.id; limit = c.self.invariant.2 i; seats = t.key.seats }) ∙ c.self.view_is in
    let others = c.pop.new.self.items in
    let last = c.in-Some.last in
    let word = c.close_with.result in
    let ends = subst (λ hand. EndsWith (GateRule gate.limit gate.seats) hand word) (joined_back place_of last others) c.close_with.ensures in
    subst (λ (z : GateState × List SeatState). Closes z.0 z.1 word) (λ i. (same i, sym c.in-Some.ensures.items i)) (ends_with gate (others ++ last ∷ []) word ends)
