use Rattle.std.proofs.Common.{true, false, refl, sym, ◌∙◌}
use Rattle.evl_words.specs.MutexWorld.{forgets}
use Rattle.evl_words.specs.MutexRule.{forgot}
use Rattle.evl_words.proofs.MutexSeats.{forgot_of}
use Rattle.evl_core.proofs.words.MutexStepLaws.{forget_made}
use Rattle.evl_core.proofs.words.StepDues.{held_due}
use Rattle.evl_core.proofs.words.StepNotes.{forget_noted}
use Rattle.evl_core.proofs.mutex_steps.forget.Goals as goal

pub load-found-requires : goal.load-found-requires
load-found-requires g c = held_due _ _ _ c.args.seat.now.id c.args.seat.now.me _ c.requires.table _ _ c.from-word.ensures c.requires.there c.requires.holder forgets refl tt 0 0 forgot (λ found u d. ((refl, d), forgot_of _ _ u found d)) (λ st n. n) (λ n. refl)

pub returns-then-is_offered_to-clause-word : goal.returns-then-is_offered_to-clause-word
returns-then-is_offered_to-clause-word g c = forget_made _ _ _ _ _ _ _ _ c.requires.table c.load-found.ensures.0 c.args.core.now.shared.table_id.slots c.from-word.result 0 0 c.load-found.result c.from-word.ensures c.number.result true c.number.ensures.number (sym c.if-is_offered_to.true ∙ c.is_offered_to.ensures) c.load-found.ensures.2

pub returns-then-is_offered_to-clause-noted : goal.returns-then-is_offered_to-clause-noted
returns-then-is_offered_to-clause-noted g c = forget_noted _ _ _ _ _ _ _ c.requires.table c.args.core.now.shared.table_id.slots c.from-word.result 0 0 c.load-found.result c.from-word.ensures c.number.result c.number.ensures.number true (sym c.is_offered_to.ensures ∙ c.if-is_offered_to.true) c.load-found.ensures.2

pub returns-else-is_offered_to-clause-word : goal.returns-else-is_offered_to-clause-word
returns-else-is_offered_to-clause-word g c = forget_made _ _ _ _ _ _ _ _ c.requires.table c.load-found.ensures.0 c.args.core.now.shared.table_id.slots c.from-word.result 0 0 c.load-found.result c.from-word.ensures c.number.result false c.number.ensures.number (sym c.if-is_offered_to.false ∙ c.is_offered_to.ensures) c.load-found.ensures.2

pub returns-else-is_offered_to-clause-noted : goal.returns-else-is_offered_to-clause-noted
returns-else-is_offered_to-clause-noted g c = forget_noted _ _ _ _ _ _ _ c.requires.table c.args.core.now.shared.table_id.slots c.from-word.result 0 0 c.load-found.result c.from-word.ensures c.number.result c.number.ensures.number false (sym c.is_offered_to.ensures ∙ c.if-is_offered_to.false) c.load-found.ensures.2
