use Rattle.std.proofs.Common.{ap, subst}
use Rattle.evl_kernel.specs.state.KernelViews.{KernelView}
use Rattle.evl_core.specs.accounts.KernelCalls.{ReservesFor}
use Rattle.evl_machine.specs.callers.Handles.{HeldState}
use Rattle.evl_machine.proofs.callers.Visits.{held_roomier}
use Rattle.evl_machine.proofs.held.HeldOf.reserve.Goals as goal

pub invariant_of-self : goal.invariant_of-self
invariant_of-self g c = held_roomier _ _ _ _ c.self.invariant c.reserve_for.ensures.same

pub returns-clause-same : goal.returns-clause-same
returns-clause-same g c = ap (λ (h : HeldState _). h.caller) c.self.view_is

pub returns-clause-reserved : goal.returns-clause-reserved
returns-clause-reserved g c = subst (λ (k : KernelView _). ReservesFor c.args.calls k c.reserve_for.result c.reserve_for.new.self) (ap (λ (h : HeldState _). h.kernel) c.self.view_is) c.reserve_for.ensures
