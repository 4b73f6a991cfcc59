use Rattle.std.proofs.Common.{◌≡◌, ◌+◌, eqb, refl, sym, ap, ◌∙◌}
use prog.Atomic.{either}
use Rattle.evl_base.specs.declared.refusal.Refusal.TheVariants.{Busy}
use Rattle.evl_words.specs.MutexWorld.{tries}
use Rattle.evl_words.specs.MutexRule.{tried}
use Rattle.evl_words.proofs.MutexSeats.{tried_of}
use Rattle.evl_core.proofs.words.MutexStepLaws.{lose_held_made, number_is, pass_is, stranger_is, win_held_made}
use Rattle.evl_core.proofs.words.SeatLists.{some-within}
use Rattle.evl_core.proofs.words.StepDues.{held_due}
use Rattle.evl_core.proofs.words.StepNotes.{lost_noted, won_noted}
use Rattle.evl_core.proofs.mutex_steps.try_held.Goals as goal

pub compare_exchange-requires : goal.compare_exchange-requires
compare_exchange-requires g c =
    let its = c.requires.table.its in
    let number : its.number ≡ c.from-number.result = number_is _ _ _ its _ c.number.ensures.number ∙ sym c.from-number.ensures in
    held_due _ _ _ c.args.seat.now.id c.args.seat.now.me _ c.requires.table _ _ c.from-word.ensures (some-within _ _ _ c.requires.free) c.requires.holder tries c.requires.ceiling (stranger_is _ _ _ its c.requires.free) 0 (c.from-number.result + 1) tried (λ found u d. ((refl, d), tried_of _ _ u found d)) (λ st n. either (eqb n 0) st.second n) (λ n. ap (λ x. either (eqb n 0) (x + 1) n) number)

pub own-requires : goal.own-requires
own-requires g c = record { there = some-within _ _ _ c.requires.free }

pub returns-then-compare_exchange-eq0-clause-word : goal.returns-then-compare_exchange-eq0-clause-word
returns-then-compare_exchange-eq0-clause-word g c = win_held_made _ _ _ _ _ _ _ _ c.requires.table c.compare_exchange.ensures.0 c.args.core.now.shared.table_id.slots c.from-word.result 0 (c.from-number.result + 1) c.compare_exchange.result c.from-word.ensures c.own.result c.own.new.self c.compare_exchange.ensures.2 c.if-compare_exchange-eq0.true c.requires.free c.own.ensures.pass c.own.ensures.owned

pub returns-then-compare_exchange-eq0-clause-pass : goal.returns-then-compare_exchange-eq0-clause-pass
returns-then-compare_exchange-eq0-clause-pass g c = pass_is _ _ _ c.requires.table.its c.own.result c.own.ensures.pass

pub returns-then-compare_exchange-eq0-clause-noted : goal.returns-then-compare_exchange-eq0-clause-noted
returns-then-compare_exchange-eq0-clause-noted g c = won_noted _ _ _ _ _ _ _ c.requires.table c.args.core.now.shared.table_id.slots c.from-word.result 0 (c.from-number.result + 1) c.compare_exchange.result c.from-word.ensures c.number.result c.number.ensures.number c.own.result (ap (λ n. n + 1) c.from-number.ensures) c.compare_exchange.ensures.2 c.if-compare_exchange-eq0.true

pub returns-else-compare_exchange-eq0-clause-word : goal.returns-else-compare_exchange-eq0-clause-word
returns-else-compare_exchange-eq0-clause-word g c = lose_held_made _ _ _ _ _ _ _ _ c.requires.table c.compare_exchange.ensures.0 c.args.core.now.shared.table_id.slots c.from-word.result 0 (c.from-number.result + 1) c.compare_exchange.result c.from-word.ensures c.compare_exchange.ensures.2 c.if-compare_exchange-eq0.false c.requires.free

pub returns-else-compare_exchange-eq0-clause-noted : goal.returns-else-compare_exchange-eq0-clause-noted
returns-else-compare_exchange-eq0-clause-noted g c = lost_noted _ _ _ _ _ _ _ c.requires.table c.args.core.now.shared.table_id.slots c.from-word.result 0 (c.from-number.result + 1) c.compare_exchange.result c.from-word.ensures c.number.result c.number.ensures.number Busy (ap (λ n. n + 1) c.from-number.ensures) c.compare_exchange.ensures.2 c.if-compare_exchange-eq0.false
