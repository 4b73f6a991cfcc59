use Rattle.std.proofs.Common.{◌≡◌, refl, sym, ap, ◌∙◌, arith}
use Rattle.std.specs.Prelude.{bit_or}
use mathlib.Core.Option.{none}
use Rattle.atomic_table.specs.Table.{step}
use Rattle.evl_words.specs.MutexWorld.{claims}
use Rattle.evl_words.specs.MutexRule.{view_in, claimed}
use Rattle.evl_words.specs.MutexCalls.{MutexSeatState, MutexState}
use Rattle.evl_words.proofs.MutexSeats.{mutex_allows, claimed_owns}
use Rattle.evl_words.proofs.mutex.MutexWord.claim.Goals as goal

pub fetch_or-word-requires : goal.fetch_or-word-requires
fetch_or-word-requires g c =
    let s = c.seat.inside in
    let t = c.self.inside.table.shared in
    let v = view_in s.seat.me.0 in
    let one : t.table_id.words ≡ 1 = c.self.invariant.0 in (
      ap (λ (z : MutexSeatState). z.table) c.seat.view_is ∙ c.requires.table ∙ sym (ap (λ (z : MutexState). z.table) c.self.view_is),
      omega arith,
      mutex_allows t.key.seats t.table_id.slots s.seat.id s.here.number s.seat.me c.seat.invariant.0 claims tt (λ n. bit_or n 2147483648) (λ n. refl) (step t.table_id.slots 0 2147483648 0 none) claimed (λ found u d. ((refl, d), claimed_owns s.here.number v u found d)),
    )
