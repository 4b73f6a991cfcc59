use Rattle.std.proofs.Common.{ap, sym, ◌∙◌, subst}
use Rattle.evl_kernel.specs.state.KernelViews.{KernelView}
use Rattle.evl_machine.specs.callers.Handles.{HeldState, MachineState}
use Rattle.evl_core.specs.rule.Known.{ComesFrom}
use Rattle.evl_core.proofs.accounts.Knowing.{answers_still}
use Rattle.evl_machine.proofs.callers.Visits.{held_call}
use Rattle.evl_machine.proofs.held.HeldOf.apply.Goals as goal

pub apply-requires-clause-by_plan : goal.apply-requires-clause-by_plan
apply-requires-clause-by_plan g c =
    let first = sym (ap (λ (m : MachineState _). m.first) c.self.invariant.0) ∙ ap (λ (h : HeldState _). h.caller.machine.first) c.self.view_is in
    answers_still _ _ c.args.self.now.caller.machine.first c.self.inside.kernel (subst (λ (f : KernelView _). ComesFrom f c.self.inside.kernel) first c.self.invariant.2) c.requires

pub invariant_of-self : goal.invariant_of-self
invariant_of-self g c = held_call _ _ _ _ _ _ _ c.self.invariant c.apply.ensures.seat c.apply.ensures.same (sym c.in_default.ensures.refused) c.apply.ensures.applied c.apply.ensures.suits
