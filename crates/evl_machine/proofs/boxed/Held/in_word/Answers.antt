use Rattle.std.proofs.Common.{ap}
use Rattle.evl_machine.specs.callers.Handles.{HeldState}
use Rattle.evl_machine.proofs.mutex_locks.LockingLaws.{answers_there}
use Rattle.evl_machine.proofs.boxed.Held.in_word.Goals as goal

pub invariant_of-self : goal.invariant_of-self
invariant_of-self g c = record { by_plan = answers_there (λ x. x.kinds.0) (λ x. x.plan.value) c.args.self.now.of.caller.machine c.in_word.new.self.caller.machine (ap (λ (s : HeldState _). s.caller.machine) c.in_word.ensures.same) c.args.self.now.by_plan }
