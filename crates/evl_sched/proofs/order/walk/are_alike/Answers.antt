use Rattle.std.proofs.Common.{sym, ◌∙◌}
use Rattle.evl_sched.proofs.WalkLaws.{both-same, order-none}
use Rattle.evl_sched.proofs.order.walk.are_alike.Goals as goal

pub loop-turn-init : goal.loop-turn-init
loop-turn-init g c = order-none c.args.one.now.items ∙ sym (order-none c.args.other.now.items)

pub returns-then-turn-other_turn-clause-other : goal.returns-then-turn-other_turn-clause-other
returns-then-turn-other_turn-clause-other g c = λ same. absurd (c.if-turn-other_turn.true (both-same _ _ _ _ _ _ _ _ c.loop-turn.invariant c.in-Some.ensures.next c.in-Some-next_ready.ensures.next same))
