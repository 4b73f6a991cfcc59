use Rattle.evl_kernel.specs.state.Callbacks.{AnswersByPlan}
use Rattle.test_core.proofs.kernels.most_plays.threads_wait.Given as goal

abbrev pub invariant-loop-thread : goal.invariant-loop-thread
invariant-loop-thread g l = AnswersByPlan g.C.Handler.declared g.C.Handler.plan l.kernel.callbacks
