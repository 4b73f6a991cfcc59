use Rattle.evl_sched.proofs.QueuedLaws.{none-first}
use Rattle.evl_sched.proofs.queues.Queues.is_empty.Goals as goal

pub returns-in-None : goal.returns-in-None
returns-in-None g c = record { empty = λ e. rw (← c.self.view_is) (none-first _ _ _ c.self.invariant c.in-None.ensures.greatest) }
