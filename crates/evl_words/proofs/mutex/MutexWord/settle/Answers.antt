use Rattle.std.proofs.Common.{◌≡◌, ◌+◌, refl, sym, ap, ◌∙◌, arith}
use mathlib.Core.Option.{none}
use Rattle.atomic_table.specs.Table.{step}
use Rattle.evl_words.specs.declared.mutex.MutexRole.TheVariants.{Winner}
use Rattle.evl_words.specs.MutexWorld.{settles}
use Rattle.evl_words.specs.MutexRule.{view_in, does}
use Rattle.evl_words.specs.MutexCalls.{MutexSeatState, MutexState}
use Rattle.evl_words.proofs.MutexSeats.{mutex_allows}
use Rattle.evl_words.proofs.mutex.MutexWord.settle.Goals as goal

pub swap-requires : goal.swap-requires
swap-requires g c =
    let s = c.seat.inside in
    let t = c.self.inside.table.shared in
    let v = view_in s.seat.me.0 in
    let number : c.from-number.result ≡ s.here.number = c.from-number.ensures ∙ c.number.ensures in
    let won : v.held.role ≡ Winner = ap (λ (z : MutexSeatState). z.view.held.role) c.seat.view_is ∙ c.requires.won in
    let one : t.table_id.words ≡ 1 = c.self.invariant.0 in (
      ap (λ (z : MutexSeatState). z.table) c.seat.view_is ∙ c.requires.mine.table ∙ sym (ap (λ (z : MutexState). z.table) c.self.view_is),
      omega arith,
      mutex_allows t.key.seats t.table_id.slots s.seat.id s.here.number s.seat.me c.seat.invariant.0 settles won (λ _. c.from-number.result + 1) (λ n. ap (λ z. z + 1) (sym number)) (step t.table_id.slots 0 (c.from-number.result + 1) 0 none) (does settles) (λ found u d. (refl, d)),
    )
