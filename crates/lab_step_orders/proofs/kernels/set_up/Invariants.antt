use Rattle.std.proofs.Common.{◌≡◌, drop}
use Rattle.evl_kernel.specs.state.Callbacks.{AnswersByPlan}
use Rattle.lab_step_orders.specs.Visits.{set_up}
use Rattle.lab_step_orders.proofs.kernels.set_up.Given as goal

abbrev pub invariant-loop-step : goal.invariant-loop-step
invariant-loop-step g l = record {
  by_plan : AnswersByPlan g.C.Handler.declared g.C.Handler.plan l.kernel.callbacks;
  rest : set_up l.kernel.history.state (drop l.step-index l.steps) ≡ set_up l.initial.kernel.history.state l.steps;
  bank : l.kernel.history.bank ≡ l.initial.kernel.history.bank;
}
