use Rattle.std.proofs.Common.{◌≡◌, ℕ, ◌<◌, refl, sym, ap, ◌∙◌, subst}
use Rattle.atomic_table.specs.Table.{Me}
use Rattle.evl_words.specs.Hands.{Hand, first_of, rest_of}
use Rattle.evl_words.specs.Endings.{left_after}
use Rattle.evl_words.specs.Parts.{OneWord}
use Rattle.evl_words.specs.MutexWorld.{MutexView, newcomer}
use Rattle.evl_words.specs.MutexRule.{MutexPart, view_in}
use Rattle.evl_words.specs.MutexCalls.{MutexState, begins, new_seat, seat_with}
use Rattle.evl_words.proofs.Endings.{first_left, map_same, splits_hands}
use Rattle.evl_words.proofs.mutex.MutexWord.deal.Goals as goal

pub deal-requires-clause-splits : goal.deal-requires-clause-splits
deal-requires-clause-splits g c = splits_hands (OneWord MutexPart c.args.table.shared.key.seats)

pub deal-requires-clause-begins : goal.deal-requires-clause-begins
deal-requires-clause-begins g c k lt =
    let hand = ap (λ (z : Me (Unit {0}) (Hand MutexView)). first_of (left_after rest_of z.0 k)) c.requires.hand.1 ∙ first_left (newcomer c.args.seats) c.args.seats k lt in subst (begins k) (sym hand) (refl, refl)

pub returns : goal.returns
returns g c =
    let t = c.args.table.shared in
    let id = c.args.id in
    let mutex : MutexState = record { table = t.table_id; id = id; recursive = c.args.recursive; seats = t.key.seats } in
    let hands : ℕ → Hand MutexView = λ k. first_of (left_after rest_of c.args.hand.me.0 k) in
    let views : (k : ℕ) → k < c.args.seats → view_in (hands k) ≡ newcomer t.key.seats = λ k lt. ap (λ (z : Me (Unit {0}) (Hand MutexView)). view_in (first_of (left_after rest_of z.0 k))) c.requires.hand.1
    ∙ (ap view_in (first_left (newcomer c.args.seats) c.args.seats k lt) ∙ ap newcomer (sym c.requires.table.2)) in
    (refl, refl, c.requires.table.2, c.deal.ensures ∙ map_same (λ k. seat_with t.table_id id k (hands k)) (new_seat mutex) c.args.seats (λ k lt i. record { table = t.table_id; mutex = id; number = k; depth = 0; view = views k lt i }))
