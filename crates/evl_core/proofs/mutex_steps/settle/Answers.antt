use Rattle.std.proofs.Common.{◌+◌, refl, sym, ap, ◌∙◌}
use Rattle.evl_words.specs.MutexWorld.{MutexView, settles}
use Rattle.evl_words.specs.MutexRule.{does}
use Rattle.evl_core.proofs.words.MutexStepLaws.{number_is, part_is, settle_made}
use Rattle.evl_core.proofs.words.StepDues.{held_due}
use Rattle.evl_core.proofs.words.StepNotes.{settle_noted}
use Rattle.evl_core.proofs.mutex_steps.settle.Goals as goal

pub swap-requires : goal.swap-requires
swap-requires g c =
    held_due _ _ _ c.args.seat.now.id c.args.seat.now.me _ c.requires.table _ _ c.from-word.ensures c.requires.there c.requires.holder settles refl (ap (λ (x : MutexView). x.held.role) (sym (part_is _ _ _ c.requires.table.its)) ∙ c.requires.won) (c.from-number.result + 1) 0 (does settles) (λ found u d. (refl, d)) (λ st n. st.first)
    (λ n. ap (λ x. x + 1) (number_is _ _ _ c.requires.table.its _ c.number.ensures.number ∙ sym c.from-number.ensures))

pub returns-clause-word : goal.returns-clause-word
returns-clause-word g c = settle_made _ _ _ _ _ _ _ _ c.requires.table c.swap.ensures.0 c.args.core.now.shared.table_id.slots c.from-word.result (c.from-number.result + 1) 0 c.swap.result c.from-word.ensures c.own.result c.own.new.self c.swap.ensures.2 c.own.ensures.pass c.own.ensures.owned

pub returns-clause-noted : goal.returns-clause-noted
returns-clause-noted g c = settle_noted _ _ _ _ _ _ _ c.requires.table c.args.core.now.shared.table_id.slots c.from-word.result (c.from-number.result + 1) 0 c.swap.result c.from-word.ensures c.number.result c.number.ensures.number (ap (λ n. n + 1) c.from-number.ensures) c.swap.ensures.2
