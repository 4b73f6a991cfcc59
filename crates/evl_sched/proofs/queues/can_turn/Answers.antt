use Rattle.std.proofs.Common.{sym, ◌∙◌}
use Rattle.evl_sched.proofs.queues.can_turn.Goals as goal

pub returns-clause-first : goal.returns-clause-first
returns-clause-first g c e = (sym c.first_in.ensures.first ∙ c.is_linked.ensures.linked c.if-not-is_linked.false, c.if-last-thread.false)
