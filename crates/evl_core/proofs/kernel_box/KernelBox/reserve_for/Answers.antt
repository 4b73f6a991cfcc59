use Rattle.std.proofs.Common.{◌≡◌, ◌∙◌, subst}
use Rattle.evl_kernel.specs.state.KernelViews.{KernelView}
use Rattle.evl_core.specs.accounts.KernelCalls.{ReservesFor}
use Rattle.evl_core.proofs.kernel_box.KernelBox.reserve_for.Goals as goal

pub returns : goal.returns
returns g c =
    let e = c.reserve.ensures in
    let same : c.deref_mut.result.now ≡ c.args.self.now = c.deref_mut.ensures.value ∙ c.self.view_is in
    subst (λ (k : KernelView _). ReservesFor c.args.calls k c.reserve.result c.reserve.new.self) same record {
      same = record { history = e.history; callbacks = e.callbacks; limit = e.limit; room = e.keeps };
      made = e.room;
      full = e.full;
      refused = e.refusals;
      memory = e.memory;
    }
