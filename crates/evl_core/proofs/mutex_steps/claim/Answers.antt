use Rattle.std.proofs.Common.{refl}
use Rattle.std.specs.Prelude.{bit_or}
use Rattle.evl_words.specs.MutexWorld.{claims}
use Rattle.evl_words.specs.MutexRule.{claimed}
use Rattle.evl_words.proofs.MutexSeats.{claimed_owns}
use Rattle.evl_core.proofs.words.MutexStepLaws.{claim_made}
use Rattle.evl_core.proofs.words.StepDues.{held_due}
use Rattle.evl_core.proofs.words.StepNotes.{claim_noted}
use Rattle.evl_core.proofs.mutex_steps.claim.Goals as goal

pub fetch_or-requires : goal.fetch_or-requires
fetch_or-requires g c = held_due _ _ _ c.args.seat.now.id c.args.seat.now.me _ c.requires.table _ _ c.from-word.ensures c.requires.there c.requires.holder claims refl tt 2147483648 0 claimed (λ found u d. ((refl, d), claimed_owns _ _ u found d)) (λ st n. bit_or n st.first) (λ n. refl)

pub returns-clause-word : goal.returns-clause-word
returns-clause-word g c = claim_made _ _ _ _ _ _ _ _ c.requires.table c.fetch_or.ensures.0 c.args.core.now.shared.table_id.slots c.from-word.result 2147483648 0 c.fetch_or.result c.from-word.ensures _ c.requires.there c.fetch_or.ensures.2 c.claim_on.ensures

pub returns-clause-noted : goal.returns-clause-noted
returns-clause-noted g c = claim_noted _ _ _ _ _ _ _ c.requires.table c.args.core.now.shared.table_id.slots c.from-word.result 2147483648 0 c.fetch_or.result c.from-word.ensures _ refl c.fetch_or.ensures.2 c.claim_on.ensures
