use Rattle.std.proofs.Common.{◌≡◌, refl, sym, ap, ◌∙◌, arith}
use mathlib.Core.Option.{none}
use Rattle.atomic_table.specs.Table.{step}
use Rattle.evl_words.specs.MutexWorld.{awaits}
use Rattle.evl_words.specs.MutexRule.{view_in, awaited}
use Rattle.evl_words.specs.MutexCalls.{MutexSeatState, MutexState}
use Rattle.evl_words.proofs.MutexSeats.{mutex_allows, awaited_of}
use Rattle.evl_words.proofs.mutex.MutexWord.await_offer.Goals as goal

pub load-word-requires : goal.load-word-requires
load-word-requires g c =
    let s = c.seat.inside in
    let t = c.self.inside.table.shared in
    let v = view_in s.seat.me.0 in
    let one : t.table_id.words ≡ 1 = c.self.invariant.0 in (
      ap (λ (z : MutexSeatState). z.table) c.seat.view_is ∙ c.requires.table ∙ sym (ap (λ (z : MutexState). z.table) c.self.view_is),
      omega arith,
      mutex_allows t.key.seats t.table_id.slots s.seat.id s.here.number s.seat.me c.seat.invariant.0 awaits tt (λ n. n) (λ n. refl) (step t.table_id.slots 0 0 0 none) awaited (λ found u d. ((refl, d), awaited_of s.here.number v u found d)),
    )
