use Rattle.std.proofs.Common.{ap, ◌∙◌}
use Rattle.evl_machine.specs.callers.Handles.{CallerState}
use Rattle.evl_machine.proofs.mutex_locks.LockingLaws.{answers_there}
use Rattle.evl_machine.proofs.boxed.Machine.take.Goals as goal

pub invariant_of-result : goal.invariant_of-result
invariant_of-result g c = record { by_plan = answers_there (λ x. x.kinds.0) (λ x. x.plan.value) c.args.self.now.of c.in-Ok.of.caller.machine (ap (λ (s : CallerState _). s.machine) c.in-Ok.ensures.taken.caller ∙ c.requires) c.args.self.now.by_plan }
