use Rattle.std.proofs.Common.{◌≡◌, true, ap, refl, sym, ◌∙◌, subst}
use Rattle.evl_base.specs.Board.{board_fits}
use Rattle.evl_kernel.specs.state.Callbacks.{AnswersByPlan}
use Rattle.evl_kernel.specs.state.KernelViews.{KernelView}
use Rattle.evl_machine.specs.callers.Handles.{CallerState, MachineState}
use Rattle.evl_machine.proofs.callers.Opened.{opened_wait}
use Rattle.evl_machine.proofs.callers.Staying.{at_stage}
use Rattle.evl_machine.proofs.machine.MachineOf.end_wait.Goals as goal

pub end_with-requires-clause-board : goal.end_with-requires-clause-board
end_with-requires-clause-board g c =
    let same = ap (λ (s : CallerState _). s.machine.first) c.caller.view_is ∙ ap (λ (m : MachineState _). m.first) c.requires.machine in
    subst (λ (first : KernelView _). board_fits first.history.board ≡ true) (ap (λ (m : MachineState _). m.first) c.self.view_is ∙ sym same) c.self.invariant.4

pub end_with-requires-clause-by_plan : goal.end_with-requires-clause-by_plan
end_with-requires-clause-by_plan g c =
    let same = ap (λ (s : CallerState _). s.machine.first) c.caller.view_is ∙ ap (λ (m : MachineState _). m.first) c.requires.machine in
    subst (λ (first : KernelView _). AnswersByPlan g.C.Handler.declared g.C.Handler.plan first.callbacks) (sym same) c.requires.by_plan

pub end_with-requires-clause-waits : goal.end_with-requires-clause-waits
end_with-requires-clause-waits g c = opened_wait c.caller.inside.actor c.caller.inside.actor c.args.caller.now _ c.caller.view_is c.caller.invariant refl c.requires.waits

pub returns-clause-stage : goal.returns-clause-stage
returns-clause-stage g c = at_stage _ _ _ _ c.end_with.ensures.held c.end_with.ensures.suits c.end_with.ensures.rests.own
