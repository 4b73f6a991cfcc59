use Rattle.std.proofs.Common.{◌≡◌, ◌++◌, ◌-◌, map}
use Rattle.evl_sched.specs.Orders.{in_order}
use Rattle.evl_sched.proofs.order.walk.tell_all.Given as goal

abbrev pub invariant-loop-turn : goal.invariant-loop-turn
invariant-loop-turn g l = map (λ t. t.0) l.out.items ≡ map (λ t. t.0) l.fn.out.items ++ in_order l.stamps.items l.low

abbrev pub decreases-loop-turn : goal.decreases-loop-turn
decreases-loop-turn g l = l.limit - l.low
