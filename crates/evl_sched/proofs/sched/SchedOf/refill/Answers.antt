use Rattle.evl_sched.proofs.StoodLaws.{stood_anew, stood_still, stood_ungrouped}
use Rattle.evl_sched.proofs.sched.SchedOf.refill.Goals as goal

pub invariant_of-self : goal.invariant_of-self
invariant_of-self g c = (
  stood_still _ _ c.self.invariant.0 _ (c.refill_all.ensures.same c.if-not-refill_all.true),
  c.self.invariant.1,
)

pub invariant_of-self-2 : goal.invariant_of-self-2
invariant_of-self-2 g c = (
  stood_anew _ _ c.self.invariant.0 _ _ _ c.stand_grouped.ensures.ready c.stand_grouped.ensures.many c.stand_grouped.ensures.ranks,
  c.stand_grouped.ensures.listed,
)

pub stand_grouped-requires-clause-others : goal.stand_grouped-requires-clause-others
stand_grouped-requires-clause-others g c = stood_ungrouped _ _ c.self.invariant.0 _
