use Rattle.std.proofs.Common.{◌≡◌, drop}
use Rattle.evl_kernel.specs.state.Callbacks.{AnswersByPlan}
use Rattle.lab_step_orders.specs.Visits.{trailed}
use Rattle.lab_step_orders.proofs.kernels.make_all.Given as goal

abbrev pub invariant-loop-visited : goal.invariant-loop-visited
invariant-loop-visited g l = record {
  by_plan : AnswersByPlan g.C.Handler.declared g.C.Handler.plan l.kernel.callbacks;
  rest : trailed l.crew l.kernel.history.state (drop l.visited-index l.trail) ≡ trailed l.crew l.initial.kernel.history.state l.trail;
  bank : l.kernel.history.bank ≡ l.initial.kernel.history.bank;
}
