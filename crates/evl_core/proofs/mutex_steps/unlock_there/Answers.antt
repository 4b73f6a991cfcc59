use Rattle.std.proofs.Common.{◌≡◌, ◌+◌, ◌<◌, eqb, subst, refl, sym, ap, ◌∙◌, arith, IsSomeAnd, length, slice_get}
use mathlib.Core.Option.{none}
use prog.Atomic.{either}
use Rattle.atomic_table.specs.Table.{step}
use Rattle.evl_base.specs.declared.numbers.MutexId.{MutexId}
use Rattle.evl_words.specs.declared.mutex.MutexRole.TheVariants.{Owner}
use Rattle.evl_core.specs.rule.Known.{ceilings_of, mutex_count}
use Rattle.evl_core.specs.rule.ThreadRule.{mutex_of}
use Rattle.evl_core.proofs.words.MutexTokens.{makes_one, unlocks_known}
use Rattle.evl_words.specs.MutexWorld.{unlocks}
use Rattle.evl_words.specs.MutexRule.{unlocked}
use Rattle.evl_core.proofs.words.MutexStepLaws.{back_made, number_is, owner_is, unlock_made}
use Rattle.evl_core.proofs.words.SeatLists.{some-within}
use Rattle.evl_core.proofs.mutex_steps.unlock_there.Goals as goal

pub compare_exchange-requires : goal.compare_exchange-requires
compare_exchange-requires g c =
    let s = c.args.core.now.shared in
    let t = c.requires.table in
    let k = t.its.number in
    let v = t.its.thread in
    let i = c.from-word.result in
    let e = (c.from-word.ensures ∙ ap (λ m. m.0) c.mutex-mutex.ensures) in
    let number : k ≡ c.from-number.result = number_is _ _ _ t.its _ (subst (λ (m : MutexId). IsSomeAnd (slice_get c.args.places.now m.0) (λ p. p.number ≡ c.number.result)) c.mutex-mutex.ensures c.number.ensures.number) ∙ sym c.from-number.ensures in
    let here : c.args.pass.mutex.0 < length c.args.places.now = some-within _ _ _ c.requires.once in
    let within : i < mutex_count s.key.value = omega (arith, here, e, t.all) in (
      t.same,
      omega (arith, within, t.words, t.all),
      unlocks_known s.key.value s.table_id.slots c.args.seat.now.id k v c.args.seat.now.me t.its.one i within (ap (ceilings_of s.key.value) e ∙ c.requires.plain) (λ n. either (eqb n (c.from-number.result + 1)) 0 n) (step s.table_id.slots (1 + i) (c.from-number.result + 1) 0 none) refl (subst (λ n. (mutex_of n v).held.role ≡ Owner) (sym e) (owner_is _ _ _ t.its c.args.pass c.requires.once)) (λ n. ap (λ x. either (eqb n (x + 1)) 0 n) number),
    )

pub returns-then-compare_exchange-number : goal.returns-then-compare_exchange-number
returns-then-compare_exchange-number g c = record { word = unlock_made _ _ _ _ _ _ _ _ c.requires.table c.compare_exchange.ensures.0 c.args.core.now.shared.table_id.slots c.from-word.result (c.from-number.result + 1) 0 c.compare_exchange.result (c.from-word.ensures ∙ ap (λ m. m.0) c.mutex-mutex.ensures) c.args.pass c.number.result c.spend.new.self c.compare_exchange.ensures.2 (subst (λ (m : MutexId). IsSomeAnd (slice_get c.args.places.now m.0) (λ p. p.number ≡ c.number.result)) c.mutex-mutex.ensures c.number.ensures.number) (c.if-compare_exchange-number.true ∙ ap (λ n. n + 1) c.from-number.ensures) c.requires.once c.spend.ensures.spent; event = makes_one c.args.pass.mutex.0 _ _ unlocks c.compare_exchange.result _ _ (step c.args.core.now.shared.table_id.slots (1 + c.from-word.result) (c.from-number.result + 1) 0 none) (ap (λ n. 1 + n) (c.from-word.ensures ∙ ap (λ m. m.0) c.mutex-mutex.ensures)) c.requires.table.its.one unlocked (λ st p q cs ds found x. x.0) c.compare_exchange.ensures.2 }

pub returns-else-compare_exchange-number : goal.returns-else-compare_exchange-number
returns-else-compare_exchange-number g c = record { word = back_made _ _ _ _ _ _ _ _ c.requires.table c.compare_exchange.ensures.0 c.args.core.now.shared.table_id.slots c.from-word.result (c.from-number.result + 1) 0 c.compare_exchange.result (c.from-word.ensures ∙ ap (λ m. m.0) c.mutex-mutex.ensures) c.args.pass c.number.result c.compare_exchange.ensures.2 (subst (λ (m : MutexId). IsSomeAnd (slice_get c.args.places.now m.0) (λ p. p.number ≡ c.number.result)) c.mutex-mutex.ensures c.number.ensures.number) (λ same. c.if-compare_exchange-number.false (same ∙ ap (λ n. n + 1) (sym c.from-number.ensures))) c.requires.once; event = makes_one c.args.pass.mutex.0 _ _ unlocks c.compare_exchange.result _ _ (step c.args.core.now.shared.table_id.slots (1 + c.from-word.result) (c.from-number.result + 1) 0 none) (ap (λ n. 1 + n) (c.from-word.ensures ∙ ap (λ m. m.0) c.mutex-mutex.ensures)) c.requires.table.its.one unlocked (λ st p q cs ds found x. x.0) c.compare_exchange.ensures.2 }
