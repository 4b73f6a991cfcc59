use Rattle.evl_kernel.specs.state.Callbacks.{AnswersByPlan}
use Rattle.test_core.proofs.kernels.most_plays.timers_are_due.Given as goal

abbrev pub invariant-loop-callback : goal.invariant-loop-callback
invariant-loop-callback g l = AnswersByPlan g.C.Handler.declared g.C.Handler.plan l.kernel.callbacks
