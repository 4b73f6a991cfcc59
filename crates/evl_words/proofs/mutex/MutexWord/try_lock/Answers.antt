use Rattle.std.proofs.Common.{◌≡◌, false, ◌+◌, eqb, refl, sym, ap, ◌∙◌, arith}
use mathlib.Core.Option.{none}
use prog.Atomic.{either}
use Rattle.atomic_table.specs.Table.{step}
use Rattle.evl_words.specs.MutexWorld.{tries, owns}
use Rattle.evl_words.specs.MutexRule.{view_in, tried}
use Rattle.evl_words.specs.MutexCalls.{MutexSeatState, MutexState}
use Rattle.evl_words.proofs.MutexSeats.{mutex_allows, stranger_at, tried_of}
use Rattle.evl_words.proofs.mutex.MutexWord.try_lock.Goals as goal

pub compare_exchange-found-requires : goal.compare_exchange-found-requires
compare_exchange-found-requires g c =
    let s = c.seat.inside in
    let t = c.self.inside.table.shared in
    let v = view_in s.seat.me.0 in
    let number : c.from-number.result ≡ s.here.number = c.from-number.ensures ∙ c.number.ensures in
    let above = c.if-depth-gt0.false in
    let depth = c.depth-depth.ensures in
    let stranger : owns v.held.role ≡ false = stranger_at v.held.role s.here.depth c.seat.invariant.1 (omega arith) in
    let one : t.table_id.words ≡ 1 = c.self.invariant.0 in (
      ap (λ (z : MutexSeatState). z.table) c.seat.view_is ∙ c.requires.table ∙ sym (ap (λ (z : MutexState). z.table) c.self.view_is),
      omega arith,
      mutex_allows t.key.seats t.table_id.slots s.seat.id s.here.number s.seat.me c.seat.invariant.0 tries stranger (λ n. either (eqb n 0) (c.from-number.result + 1) n) (λ n. ap (λ z. either (eqb n 0) (z + 1) n) (sym number)) (step t.table_id.slots 0 0 (c.from-number.result + 1) none) tried (λ found u d. ((refl, d), tried_of s.here.number v u found d)),
    )
