use Rattle.std.proofs.Common.{ap, sym, subst}
use Rattle.evl_kernel.specs.state.Callbacks.{AnswersByPlan}
use Rattle.test_core.proofs.callers.held.applies_all.Goals as goal

pub applies_one-requires : goal.applies_one-requires
applies_one-requires g c = subst (λ k. AnswersByPlan g.C.Handler.declared g.C.Handler.plan k.machine.first.callbacks) (sym c.loop-step.invariant) c.requires
