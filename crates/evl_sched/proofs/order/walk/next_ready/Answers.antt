use Rattle.evl_sched.proofs.StampedLaws.{over-order}
use Rattle.evl_sched.proofs.WalkLaws.{next-is, next-over}
use Rattle.evl_sched.proofs.order.walk.next_ready.Goals as goal

pub returns-then-limit-low : goal.returns-then-limit-low
returns-then-limit-low g c = record { next = next-over c.args.stamps.now.items c.args.limit c.args.low c.requires c.if-limit-low.true }

pub returns-in-Some-stamp_in : goal.returns-in-Some-stamp_in
returns-in-Some-stamp_in g c =
    record { next = next-is c.args.stamps.now.items c.args.limit c.args.low c.in-Some.thread c.in-Some-stamp_in.stamp c.requires c.in-Some.ensures.least c.in-Some-stamp_in.ensures.stamp }

pub returns-in-None : goal.returns-in-None
returns-in-None g c = record { next = over-order c.args.stamps.now.items c.args.limit c.args.low c.requires c.in-None.ensures.least }
