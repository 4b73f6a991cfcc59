use Rattle.std.proofs.Common.{ap, sym, subst, ◌∙◌}
use Rattle.evl_kernel.specs.state.Callbacks.{AnswersByPlan}
use Rattle.test_core.proofs.callers.held.looks.Goals as goal

pub looked-requires : goal.looked-requires
looked-requires g c = subst (λ m. AnswersByPlan g.C.Handler.declared g.C.Handler.plan m.first.callbacks) (sym (ap (λ k. k.machine) c.in-Ok.ensures.taken.caller ∙ c.requires.machine)) c.requires.by_plan
