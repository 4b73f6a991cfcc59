use Rattle.evl_kernel.specs.state.Callbacks.{AnswersByPlan}
use Rattle.test_core.proofs.growths.growths.refusals.Given as goal

abbrev pub invariant-loop-step : goal.invariant-loop-step
invariant-loop-step g l = AnswersByPlan g.C.Handler.declared g.C.Handler.plan l.kernel.callbacks
