use Rattle.evl_core.proofs.accounts.Knowing.{answers_still}
use Rattle.evl_machine.proofs.mutex_locks.LockingLaws.{answers_there}
use Rattle.evl_machine.proofs.boxed.Machine.close.Goals as goal

pub invariant_of-result : goal.invariant_of-result
invariant_of-result g c = record { by_plan = answers_there (λ x. x.kinds.0) (λ x. x.plan.value) c.args.self.of c.in-Err.of c.in-Err.ensures.again.0 c.args.self.by_plan }

pub returns-in-Ok-clause-by_plan : goal.returns-in-Ok-clause-by_plan
returns-in-Ok-clause-by_plan g c = answers_still (λ x. x.kinds.0) (λ x. x.plan.value) c.args.self.of.first c.in-Ok.kernel c.in-Ok.ensures.closed.comes c.args.self.by_plan
