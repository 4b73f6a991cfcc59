use Rattle.std.proofs.Common.{ap}
use Rattle.evl_machine.specs.callers.Handles.{CallerState}
use Rattle.evl_machine.proofs.mutex_locks.LockingLaws.{answers_there}
use Rattle.evl_machine.proofs.boxed.Held.reserve.Goals as goal

pub invariant_of-self : goal.invariant_of-self
invariant_of-self g c = record { by_plan = answers_there (λ x. x.kinds.0) (λ x. x.plan.value) c.args.self.now.of.caller.machine c.reserve.new.self.caller.machine (ap (λ (s : CallerState _). s.machine) c.reserve.ensures.same) c.args.self.now.by_plan }
