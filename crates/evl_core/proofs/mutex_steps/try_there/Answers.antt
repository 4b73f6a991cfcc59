use Rattle.std.proofs.Common.{◌≡◌, ◌+◌, ◌<◌, eqb, false, subst, refl, sym, ap, ◌∙◌, arith, length}
use mathlib.Core.Option.{none}
use prog.Atomic.{either}
use Rattle.atomic_table.specs.Table.{step}
use Rattle.evl_words.specs.MutexWorld.{owns, tries}
use Rattle.evl_words.specs.MutexRule.{tried}
use Rattle.evl_core.specs.rule.Known.{ceilings_of, mutex_count}
use Rattle.evl_core.specs.rule.ThreadRule.{mutex_of}
use Rattle.evl_core.proofs.words.MutexTokens.{makes_one, tries_known}
use Rattle.evl_core.proofs.words.MutexStepLaws.{lose_made, number_is, pass_is, stranger_is, win_made}
use Rattle.evl_core.proofs.words.SeatLists.{some-within}
use Rattle.evl_core.proofs.mutex_steps.try_there.Goals as goal

pub compare_exchange-requires : goal.compare_exchange-requires
compare_exchange-requires g c =
    let s = c.args.core.now.shared in
    let t = c.requires.table in
    let k = t.its.number in
    let v = t.its.thread in
    let i = c.from-word.result in
    let e = c.from-word.ensures in
    let number : k ≡ c.from-number.result = number_is _ _ _ t.its _ c.number.ensures.number ∙ sym c.from-number.ensures in
    let here : c.args.mutex.0 < length c.args.places.now = some-within _ _ _ c.requires.free in
    let within : i < mutex_count s.key.value = omega (arith, here, e, t.all) in (
      t.same,
      omega (arith, within, t.words, t.all),
      tries_known s.key.value s.table_id.slots c.args.seat.now.id k v c.args.seat.now.me t.its.one i within (ap (ceilings_of s.key.value) e ∙ c.requires.plain) (λ n. either (eqb n 0) (c.from-number.result + 1) n) (step s.table_id.slots (1 + i) 0 (c.from-number.result + 1) none) refl (subst (λ n. owns (mutex_of n v).held.role ≡ false) (sym e) (stranger_is _ _ _ t.its c.requires.free)) (λ n. ap (λ x. either (eqb n 0) (x + 1) n) number),
    )

pub own-requires : goal.own-requires
own-requires g c = record { there = some-within _ _ _ c.requires.free }

pub returns-then-compare_exchange-eq0-clause-word : goal.returns-then-compare_exchange-eq0-clause-word
returns-then-compare_exchange-eq0-clause-word g c = win_made _ _ _ _ _ _ _ _ c.requires.table c.compare_exchange.ensures.0 c.args.core.now.shared.table_id.slots c.from-word.result 0 (c.from-number.result + 1) c.compare_exchange.result c.from-word.ensures c.own.result c.own.new.self c.compare_exchange.ensures.2 c.if-compare_exchange-eq0.true c.requires.free c.own.ensures.pass c.own.ensures.owned

pub returns-then-compare_exchange-eq0-clause-pass : goal.returns-then-compare_exchange-eq0-clause-pass
returns-then-compare_exchange-eq0-clause-pass g c = pass_is _ _ _ c.requires.table.its c.own.result c.own.ensures.pass

pub returns-else-compare_exchange-eq0-clause-word : goal.returns-else-compare_exchange-eq0-clause-word
returns-else-compare_exchange-eq0-clause-word g c = lose_made _ _ _ _ _ _ _ _ c.requires.table c.compare_exchange.ensures.0 c.args.core.now.shared.table_id.slots c.from-word.result 0 (c.from-number.result + 1) c.compare_exchange.result c.from-word.ensures c.compare_exchange.ensures.2 c.if-compare_exchange-eq0.false c.requires.free

pub returns-then-compare_exchange-eq0-clause-event : goal.returns-then-compare_exchange-eq0-clause-event
returns-then-compare_exchange-eq0-clause-event g c = makes_one c.args.mutex.0 _ _ tries c.compare_exchange.result _ _ (step c.args.core.now.shared.table_id.slots (1 + c.from-word.result) 0 (c.from-number.result + 1) none) (ap (λ n. 1 + n) c.from-word.ensures) c.requires.table.its.one tried (λ st p q cs ds found x. x.0) c.compare_exchange.ensures.2

pub returns-else-compare_exchange-eq0-clause-event : goal.returns-else-compare_exchange-eq0-clause-event
returns-else-compare_exchange-eq0-clause-event g c = makes_one c.args.mutex.0 _ _ tries c.compare_exchange.result _ _ (step c.args.core.now.shared.table_id.slots (1 + c.from-word.result) 0 (c.from-number.result + 1) none) (ap (λ n. 1 + n) c.from-word.ensures) c.requires.table.its.one tried (λ st p q cs ds found x. x.0) c.compare_exchange.ensures.2
