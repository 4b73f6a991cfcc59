use Rattle.std.proofs.Common.{refl}
use Rattle.std.specs.Prelude.{bit_and}
use Rattle.evl_words.specs.MutexWorld.{accepts}
use Rattle.evl_words.specs.MutexRule.{does}
use Rattle.evl_core.proofs.words.MutexStepLaws.{offer_is, offered_within, take_made}
use Rattle.evl_core.proofs.words.StepDues.{held_due}
use Rattle.evl_core.proofs.words.StepNotes.{take_noted}
use Rattle.evl_core.proofs.mutex_steps.take_offer.Goals as goal

pub fetch_and-requires : goal.fetch_and-requires
fetch_and-requires g c =
    held_due _ _ _ c.args.seat.now.id c.args.seat.now.me _ c.requires.table _ _ c.from-word.ensures (offered_within _ _ _ _ c.requires.offered) c.requires.holder accepts refl (offer_is _ _ _ c.requires.table.its _ c.requires.offered) 18446744072635809791 0 (does accepts) (λ found u d. (refl, d)) (λ st n. bit_and n st.first) (λ n. refl)

pub own-requires : goal.own-requires
own-requires g c = record { there = offered_within _ _ _ _ c.requires.offered }

pub returns-clause-word : goal.returns-clause-word
returns-clause-word g c = take_made _ _ _ _ _ _ _ _ c.requires.table c.fetch_and.ensures.0 c.args.core.now.shared.table_id.slots c.from-word.result 18446744072635809791 0 c.fetch_and.result c.from-word.ensures c.own.result c.own.new.self c.fetch_and.ensures.2 c.own.ensures.pass c.own.ensures.owned

pub returns-clause-noted : goal.returns-clause-noted
returns-clause-noted g c = take_noted _ _ _ _ _ _ _ c.requires.table c.args.core.now.shared.table_id.slots c.from-word.result 18446744072635809791 0 c.fetch_and.result c.from-word.ensures refl c.fetch_and.ensures.2
