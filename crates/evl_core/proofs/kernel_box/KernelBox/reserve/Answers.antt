use Rattle.std.proofs.Common.{◌≡◌, ◌∙◌, subst}
use Rattle.evl_kernel.specs.state.KernelViews.{KernelView}
use Rattle.evl_core.specs.accounts.KernelCalls.{Reserves}
use Rattle.evl_core.proofs.accounts.KernelCalls.{reserves}
use Rattle.evl_core.proofs.kernel_box.KernelBox.reserve.Goals as goal

pub returns : goal.returns
returns g c =
    let e = c.reserve.ensures in
    let same : c.deref_mut.result.now ≡ c.args.self.now = c.deref_mut.ensures.value ∙ c.self.view_is in
    subst (λ (k : KernelView _). Reserves k c.reserve.result c.reserve.new.self) same
    (reserves _ _ _ e.room e.full e.refusals e.memory e.within (record { history = e.history; callbacks = e.callbacks; limit = e.limit; room = e.keeps }))
