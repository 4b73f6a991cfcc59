use Rattle.std.proofs.Common.{ap, sym, subst, ◌∙◌}
use Rattle.evl_kernel.specs.state.Callbacks.{AnswersByPlan}
use Rattle.evl_machine.specs.callers.Handles.{HeldState}
use Rattle.test_hosts.proofs.session.Session.holds.Goals as goal

pub applies-caller-requires : goal.applies-caller-requires
applies-caller-requires g c = subst (λ m. AnswersByPlan g.C.Handler.declared g.C.Handler.plan m.first.callbacks) (sym (ap (λ (h : HeldState _). h.caller.machine) c.compares.ensures ∙ ap (λ k. k.machine) c.in-Ok.ensures.taken.caller ∙ c.self.invariant.0)) c.self.invariant.1
