use Rattle.std.proofs.Common.{◌<◌, ◌≡◌, ◌+◌, eqb, refl, sym, ap, ◌∙◌, arith}
use mathlib.Core.Option.{none}
use prog.Atomic.{either}
use Rattle.atomic_table.specs.Table.{step}
use Rattle.evl_words.specs.declared.mutex.MutexRole.TheVariants.{Owner}
use Rattle.evl_words.specs.MutexWorld.{unlocks}
use Rattle.evl_words.specs.MutexRule.{view_in, unlocked}
use Rattle.evl_words.specs.MutexCalls.{MutexSeatState, MutexState}
use Rattle.evl_words.proofs.MutexSeats.{mutex_allows, fits_holds, owner_at, unlocked_of}
use Rattle.evl_words.proofs.mutex.MutexWord.unlock.Goals as goal

pub compare_exchange-found-requires : goal.compare_exchange-found-requires
compare_exchange-found-requires g c =
    let s = c.seat.inside in
    let t = c.self.inside.table.shared in
    let v = view_in s.seat.me.0 in
    let number : c.from-number.result ≡ s.here.number = c.from-number.ensures ∙ c.number.ensures in
    let held : 0 < s.here.depth = fits_holds c.args.pass s.here (sym c.fits.ensures ∙ c.if-not-fits.false) in
    let owner : v.held.role ≡ Owner = owner_at v.held.role s.here.depth c.seat.invariant.1 held in
    let one : t.table_id.words ≡ 1 = c.self.invariant.0 in (
      ap (λ (z : MutexSeatState). z.table) c.seat.view_is ∙ c.requires.table ∙ sym (ap (λ (z : MutexState). z.table) c.self.view_is),
      omega arith,
      mutex_allows t.key.seats t.table_id.slots s.seat.id s.here.number s.seat.me c.seat.invariant.0 unlocks owner (λ n. either (eqb n (c.from-number.result + 1)) 0 n) (λ n. ap (λ z. either (eqb n (z + 1)) 0 n) (sym number)) (step t.table_id.slots 0 (c.from-number.result + 1) 0 none) unlocked (λ found u d. ((refl, d), unlocked_of s.here.number v u found d)),
    )
