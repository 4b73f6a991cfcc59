use Rattle.std.proofs.Common.{◌≡◌, refl, sym, ap, ◌∙◌, subst, arith}
use Rattle.std.specs.Prelude.{bit_and}
use mathlib.Core.Option.{none}
use Rattle.atomic_table.specs.Table.{step}
use Rattle.evl_words.specs.MutexWorld.{accepts, EndsOffered}
use Rattle.evl_words.specs.MutexRule.{view_in, does}
use Rattle.evl_words.specs.MutexCalls.{MutexSeatState, MutexState}
use Rattle.evl_words.proofs.MutexSeats.{mutex_allows}
use Rattle.evl_words.proofs.mutex.MutexWord.take_offer.Goals as goal

pub fetch_and-requires : goal.fetch_and-requires
fetch_and-requires g c =
    let s = c.seat.inside in
    let t = c.self.inside.table.shared in
    let v = view_in s.seat.me.0 in
    let ends : EndsOffered s.here.number v.seen = subst (λ (z : MutexSeatState). EndsOffered z.number z.view.seen) (sym c.seat.view_is) c.requires.offered in
    let one : t.table_id.words ≡ 1 = c.self.invariant.0 in (
      ap (λ (z : MutexSeatState). z.table) c.seat.view_is ∙ c.requires.mine.table ∙ sym (ap (λ (z : MutexState). z.table) c.self.view_is),
      omega arith,
      mutex_allows t.key.seats t.table_id.slots s.seat.id s.here.number s.seat.me c.seat.invariant.0 accepts ends (λ n. bit_and n 18446744072635809791) (λ n. refl) (step t.table_id.slots 0 18446744072635809791 0 none) (does accepts) (λ found u d. (refl, d)),
    )
