use Rattle.std.proofs.Common.{◌≡◌, sym, ◌∙◌, subst}
use Rattle.evl_kernel.specs.state.Callbacks.{AnswersByPlan}
use Rattle.evl_kernel.specs.state.KernelViews.{KernelView}
use Rattle.evl_core.specs.accounts.KernelCalls.{Applied}
use Rattle.evl_core.proofs.accounts.KernelCalls.{applies}
use Rattle.evl_core.proofs.kernel_box.KernelBox.apply.Goals as goal

pub apply-requires : goal.apply-requires
apply-requires g c =
    let same : c.deref_mut.result.now ≡ c.args.self.now = c.deref_mut.ensures.value ∙ c.self.view_is in
    record { by_plan = subst (λ (k : KernelView _). AnswersByPlan g.C.Handler.declared g.C.Handler.plan k.callbacks) (sym same) c.requires }

pub returns : goal.returns
returns g c =
    let e = c.apply.ensures in
    let same : c.deref_mut.result.now ≡ c.args.self.now = c.deref_mut.ensures.value ∙ c.self.view_is in
    subst (λ (k : KernelView _). Applied k c.args.caller.0 c.args.call c.apply.result c.apply.new.self) same
    (applies _ _ _ _ _ e.entry e.none e.full e.memory e.room e.answers e.brings e.handlers e.limit e.legal)
