use Rattle.evl_kernel.specs.state.Callbacks.{AnswersByPlan}
use Rattle.test_core.proofs.kernels.most_plays.lines_stand.Given as goal

abbrev pub invariant-loop-number : goal.invariant-loop-number
invariant-loop-number g l = AnswersByPlan g.C.Handler.declared g.C.Handler.plan l.kernel.callbacks
