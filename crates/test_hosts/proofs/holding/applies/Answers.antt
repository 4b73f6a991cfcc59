use Rattle.std.proofs.Common.{ap, sym, subst}
use Rattle.evl_kernel.specs.state.Callbacks.{AnswersByPlan}
use Rattle.test_hosts.proofs.holding.applies.Goals as goal

pub apply-requires-2 : goal.apply-requires-2
apply-requires-2 g c = subst (λ m. AnswersByPlan g.C.Handler.declared g.C.Handler.plan m.first.callbacks) (sym (ap (λ k. k.machine) c.apply.ensures.same)) c.requires
