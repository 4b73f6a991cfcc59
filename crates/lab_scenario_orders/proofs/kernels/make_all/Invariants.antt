use Rattle.std.proofs.Common.{◌≡◌, drop}
use Rattle.evl_kernel.specs.state.Callbacks.{AnswersByPlan}
use Rattle.lab_scenario_orders.specs.Moments.{trailed}
use Rattle.lab_scenario_orders.proofs.kernels.make_all.Given as goal

abbrev pub invariant-loop-place : goal.invariant-loop-place
invariant-loop-place g l = record {
  by_plan : AnswersByPlan g.C.Handler.declared g.C.Handler.plan l.kernel.callbacks;
  rest : trailed l.callers l.kernel.history.state (drop l.place-index l.places) ≡ trailed l.callers l.initial.kernel.history.state l.places;
  bank : l.kernel.history.bank ≡ l.initial.kernel.history.bank;
}
