use Rattle.std.proofs.Common.{refl, ap, ◌∙◌}
use Rattle.evl_words.specs.MutexWorld.{frees}
use Rattle.evl_words.specs.MutexRule.{does}
use Rattle.evl_core.proofs.words.MutexStepLaws.{free_made, owner_is}
use Rattle.evl_core.proofs.words.SeatLists.{some-within}
use Rattle.evl_core.proofs.words.StepDues.{held_due}
use Rattle.evl_core.proofs.words.StepNotes.{free_noted}
use Rattle.evl_core.proofs.mutex_steps.free.Goals as goal

pub swap-requires : goal.swap-requires
swap-requires g c = held_due _ _ _ c.args.seat.now.id c.args.seat.now.me _ c.requires.table _ _ (c.from-word.ensures ∙ ap (λ m. m.0) c.mutex.ensures) (some-within _ _ _ c.requires.once) c.requires.holder frees refl (owner_is _ _ _ c.requires.table.its c.args.pass c.requires.once) 0 0 (does frees) (λ found u d. (refl, d)) (λ st n. st.first) (λ n. refl)

pub returns-clause-word : goal.returns-clause-word
returns-clause-word g c = free_made _ _ _ _ _ _ _ _ c.requires.table c.swap.ensures.0 c.args.core.now.shared.table_id.slots c.from-word.result 0 0 c.swap.result (c.from-word.ensures ∙ ap (λ m. m.0) c.mutex.ensures) c.args.pass c.spend.new.self c.swap.ensures.2 c.requires.once c.spend.ensures.spent

pub returns-clause-noted : goal.returns-clause-noted
returns-clause-noted g c = free_noted _ _ _ _ _ _ _ c.requires.table c.args.core.now.shared.table_id.slots c.from-word.result 0 0 c.swap.result (c.from-word.ensures ∙ ap (λ m. m.0) c.mutex.ensures) refl c.swap.ensures.2
