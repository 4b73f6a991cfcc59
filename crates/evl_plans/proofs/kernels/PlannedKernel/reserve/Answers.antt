use Rattle.std.proofs.Common.{subst, sym}
use Rattle.evl_kernel.specs.state.Callbacks.{AnswersByPlan}
use Rattle.evl_plans.proofs.kernels.PlannedKernel.reserve.Goals as goal

pub invariant_of-self : goal.invariant_of-self
invariant_of-self c = subst (AnswersByPlan (λ p. p.kinds.0) (λ p. p.plan)) (sym c.reserve.ensures.callbacks) c.self.invariant
