use Rattle.std.proofs.Common.{refl}
use Rattle.evl_sched.proofs.StampedLaws.{order-empty}
use Rattle.evl_sched.proofs.order.Order.clear.Goals as goal

pub returns : goal.returns
returns g c = record { empty = rw (← c.self.view_is, c.set_all.ensures.all, c.clear.ensures.empty, order-empty) refl }
