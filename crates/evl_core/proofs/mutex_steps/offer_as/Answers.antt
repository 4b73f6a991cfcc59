use Rattle.std.proofs.Common.{◌≡◌, ◌<◌, refl, sym, ap, ◌∙◌, arith}
use Rattle.evl_words.specs.MutexBits.{offer_word}
use Rattle.evl_words.specs.MutexWorld.{MutexView, offers}
use Rattle.evl_words.specs.MutexRule.{does}
use Rattle.evl_core.specs.words.MutexTokens.{part_of}
use Rattle.evl_core.specs.rule.ThreadRule.{mutex_of}
use Rattle.evl_core.proofs.words.MutexStepLaws.{offer_made, owner_is, part_is}
use Rattle.evl_core.proofs.words.SeatLists.{some-within}
use Rattle.evl_core.proofs.words.StepDues.{held_due}
use Rattle.evl_core.proofs.words.StepNotes.{offer_noted}
use Rattle.evl_core.proofs.mutex_steps.offer_as.Goals as goal

pub swap-requires : goal.swap-requires
swap-requires g c =
    let its = c.requires.table.its in
    let seats : (part_of c.args.seat.now.me.0 c.args.pass.mutex.0).held.seats ≡ (mutex_of c.args.pass.mutex.0 its.thread).held.seats = ap (λ (x : MutexView). x.held.seats) (part_is _ _ _ its) in
    let named : g.H.Handing.next < (mutex_of c.args.pass.mutex.0 its.thread).held.seats = omega (arith, c.requires.next, c.requires.handing.0, seats) in
    held_due _ _ _ c.args.seat.now.id c.args.seat.now.me _ c.requires.table _ _ (c.from-word.ensures ∙ ap (λ m. m.0) c.mutex.ensures) (some-within _ _ _ c.requires.once) c.requires.holder (offers g.H.Handing.next g.H.Handing.more) refl (owner_is _ _ _ its c.args.pass c.requires.once, named) c.offered_word.result 0 (does (offers g.H.Handing.next g.H.Handing.more)) (λ found u d. (refl, d)) (λ st n. st.first)
    (λ n. (λ j. offer_word (sym c.requires.handing.0 j) (sym c.requires.handing.1 j)) ∙ sym c.offered_word.ensures)

pub returns-clause-word : goal.returns-clause-word
returns-clause-word g c =
    rw (c.requires.handing.0, c.requires.handing.1)
    (offer_made _ _ _ _ _ _ _ _ c.requires.table c.swap.ensures.0 c.args.core.now.shared.table_id.slots c.from-word.result c.offered_word.result 0 c.swap.result (c.from-word.ensures ∙ ap (λ m. m.0) c.mutex.ensures) c.args.pass g.H.Handing.next g.H.Handing.more c.spend.new.self c.swap.ensures.2 c.requires.once c.spend.ensures.spent)

pub returns-clause-noted : goal.returns-clause-noted
returns-clause-noted g c =
    rw (c.requires.handing.0, c.requires.handing.1)
    (offer_noted _ _ _ _ _ _ _ c.requires.table c.args.core.now.shared.table_id.slots c.from-word.result c.offered_word.result 0 c.swap.result (c.from-word.ensures ∙ ap (λ m. m.0) c.mutex.ensures) g.H.Handing.next g.H.Handing.more (c.offered_word.ensures ∙ (λ j. offer_word (c.requires.handing.0 j) (c.requires.handing.1 j))) c.swap.ensures.2)
