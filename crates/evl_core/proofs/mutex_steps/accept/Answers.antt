use Rattle.std.proofs.Common.{sym, ◌∙◌}
use Rattle.evl_core.proofs.words.MutexAccepts.{accept_done, sees_offered}
use Rattle.evl_core.proofs.mutex_steps.accept.Goals as goal

pub take_offer-requires-clause-table : goal.take_offer-requires-clause-table
take_offer-requires-clause-table g c = c.await_offer.ensures.word.table

pub take_offer-requires-clause-offered : goal.take_offer-requires-clause-offered
take_offer-requires-clause-offered g c = sees_offered _ _ _ _ _ _ (c.await_offer.ensures.word.table.same ∙ sym c.requires.table.same) c.in_ok-await_offer.ensures.word.at

pub returns-clause-word : goal.returns-clause-word
returns-clause-word g c = accept_done c.requires.table c.in_ok-await_offer.ensures.word c.take_offer.result c.take_offer.ensures.word

pub returns-clause-noted : goal.returns-clause-noted
returns-clause-noted g c = (c.await_offer.new.seat.me.0, c.in_ok-await_offer.ensures.noted, c.take_offer.ensures.noted)
