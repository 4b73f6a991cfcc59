use Rattle.evl_core.proofs.mutex_steps.offer.Given as goal

abbrev pub ghosts-offer_as : goal.ghosts-offer_as
ghosts-offer_as g a = record { next = a.next.0; more = a.more }
