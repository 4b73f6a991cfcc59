use Rattle.std.proofs.Common.{◌≡◌, refl, sym, ap, ◌∙◌, arith}
use mathlib.Core.Option.{none}
use Rattle.atomic_table.specs.Table.{step}
use Rattle.evl_words.specs.declared.mutex.MutexRole.TheVariants.{Owner}
use Rattle.evl_words.specs.MutexWorld.{frees}
use Rattle.evl_words.specs.MutexRule.{view_in, does}
use Rattle.evl_words.specs.MutexCalls.{MutexSeatState, MutexState}
use Rattle.evl_words.proofs.MutexSeats.{mutex_allows, owner_at}
use Rattle.evl_words.proofs.mutex.MutexWord.free.Goals as goal

pub swap-requires : goal.swap-requires
swap-requires g c =
    let s = c.seat.inside in
    let t = c.self.inside.table.shared in
    let v = view_in s.seat.me.0 in
    let depth : s.here.depth ≡ 1 = ap (λ (z : MutexSeatState). z.depth) c.seat.view_is ∙ c.requires.pass.1 in
    let owner : v.held.role ≡ Owner = owner_at v.held.role s.here.depth c.seat.invariant.1 (omega arith) in
    let one : t.table_id.words ≡ 1 = c.self.invariant.0 in (
      ap (λ (z : MutexSeatState). z.table) c.seat.view_is ∙ c.requires.mine.table ∙ sym (ap (λ (z : MutexState). z.table) c.self.view_is),
      omega arith,
      mutex_allows t.key.seats t.table_id.slots s.seat.id s.here.number s.seat.me c.seat.invariant.0 frees owner (λ _. 0) (λ n. refl) (step t.table_id.slots 0 0 0 none) (does frees) (λ found u d. (refl, d)),
    )
