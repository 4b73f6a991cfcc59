use Rattle.std.proofs.Common.{◌≡◌, subst, sym}
use Rattle.std.specs.Prelude.{IfSome}
use Rattle.evl_kernel.specs.state.Callbacks.{AnswersByPlan}
use Rattle.lab_callers.proofs.crew.Crew.call_by_holder.Goals as goal

pub apply-requires : goal.apply-requires
apply-requires g c =
    let crew = c.self.inside in
    let same = subst (λ held. IfSome held (λ h. h.caller.machine ≡ crew.machine.now)) c.in-Some.is crew.has in
    subst (λ machine. AnswersByPlan g.C.Handler.declared g.C.Handler.plan machine.first.callbacks) (sym same) crew.by_plan
