use Rattle.std.proofs.Common.{◌≡◌, ◌++◌, ◌∷◌, [], List, sym, ap, ◌∙◌, subst}
use Rattle.std.specs.Prelude.{All}
use Rattle.evl_words.specs.Endings.{EndsWith}
use Rattle.evl_words.specs.Parts.{OneWord}
use Rattle.evl_words.specs.MutexRule.{MutexPart, MutexRule}
use Rattle.evl_words.specs.MutexCalls.{MutexState, MutexSeatState, IsSeatOf, place_of, Closes}
use Rattle.evl_words.proofs.Endings.{joined_back, joins_hands}
use Rattle.evl_words.proofs.Sequences.{all_at, all_front}
use Rattle.evl_words.proofs.MutexEnds.{ends_with}
use Rattle.evl_words.proofs.mutex.MutexWord.close.Goals as goal

pub close_with-requires-clause-joins : goal.close_with-requires-clause-joins
close_with-requires-clause-joins g c = joins_hands (OneWord MutexPart c.self.inside.table.shared.key.seats)

pub close_with-requires-clause-seats : goal.close_with-requires-clause-seats
close_with-requires-clause-seats g c =
    let t = c.self.inside.table.shared in
    let table = sym (ap (λ (z : MutexState). z.table) c.self.view_is) in
    all_front (λ (z : MutexSeatState). IsSeatOf z c.args.self) (λ (z : MutexSeatState). z.table ≡ t.table_id) (λ z mine. mine.table ∙ table) c.pop.new.self.items c.in-Some.last (subst (λ l. All (λ (z : MutexSeatState). IsSeatOf z c.args.self) l) c.in-Some.ensures.items c.requires)

pub close_with-requires-clause-last : goal.close_with-requires-clause-last
close_with-requires-clause-last g c =
    let mine = all_at (λ (z : MutexSeatState). IsSeatOf z c.args.self) c.pop.new.self.items c.in-Some.last [] (subst (λ l. All (λ (z : MutexSeatState). IsSeatOf z c.args.self) l) c.in-Some.ensures.items c.requires) in
    mine.table ∙ sym (ap (λ (z : MutexState). z.table) c.self.view_is)

pub returns-in-Some : goal.returns-in-Some
returns-in-Some g c =
    let t = c.self.inside.table.shared in
    let mutex : MutexState = record { table = t.table_id; id = c.self.inside.id; recursive = c.self.inside.recursive; seats = t.key.seats } in
    let others = c.pop.new.self.items in
    let last = c.in-Some.last in
    let word = c.close_with.result in
    let ends = subst (λ hand. EndsWith (MutexRule mutex.seats) hand word) (joined_back place_of last others) c.close_with.ensures in
    subst (λ (z : MutexState × List MutexSeatState). Closes z.0 z.1 word) (λ i. (c.self.view_is i, sym c.in-Some.ensures.items i)) (ends_with mutex (others ++ last ∷ []) word ends)
