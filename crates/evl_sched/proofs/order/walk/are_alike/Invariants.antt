use Rattle.std.proofs.Common.{◌≡◌, ◌-◌}
use Rattle.evl_sched.specs.Orders.{in_order}
use Rattle.evl_sched.proofs.order.walk.are_alike.Given as goal

abbrev pub invariant-loop-turn : goal.invariant-loop-turn
invariant-loop-turn g l = in_order l.one.items l.low ≡ in_order l.other.items l.other_low

abbrev pub decreases-loop-turn : goal.decreases-loop-turn
decreases-loop-turn g l = l.one_limit - l.low
