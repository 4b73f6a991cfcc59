use Rattle.std.proofs.Common.{◌≡◌, true, ap, sym, ◌∙◌, subst}
use Rattle.evl_base.specs.Board.{board_fits}
use Rattle.evl_kernel.specs.state.Callbacks.{AnswersByPlan}
use Rattle.evl_kernel.specs.state.KernelViews.{KernelView}
use Rattle.evl_machine.specs.callers.Actors.{ActorState, acting, call_refusal}
use Rattle.evl_machine.specs.callers.Callers.{machine_by}
use Rattle.evl_machine.specs.callers.Handles.{CallerState, MachineState}
use Rattle.evl_core.specs.accounts.Seats.{account_of}
use Rattle.evl_core.specs.rule.Known.{seen, lock_in}
use Rattle.evl_core.specs.words.MutexSeats.{holds_mutex}
use Rattle.evl_machine.specs.stax_locks.StaxSeats.{holds_stax}
use Rattle.evl_machine.specs.calls.Visits.{actor_of}
use Rattle.evl_machine.proofs.callers.Staying.{at_stage}
use Rattle.evl_machine.proofs.callers.Visits.{same_actor}
use Rattle.evl_machine.proofs.machine.MachineOf.attempt.Goals as goal

pub call_with-requires-clause-by_plan : goal.call_with-requires-clause-by_plan
call_with-requires-clause-by_plan g c =
    let same = ap (λ (s : CallerState _). s.machine.first) c.caller.view_is ∙ ap (λ (m : MachineState _). m.first) c.requires.machine in
    subst (λ (first : KernelView _). AnswersByPlan g.C.Handler.declared g.C.Handler.plan first.callbacks) (sym same) c.requires.by_plan

pub call_with-requires-clause-board : goal.call_with-requires-clause-board
call_with-requires-clause-board g c =
    let same = ap (λ (s : CallerState _). s.machine.first) c.caller.view_is ∙ ap (λ (m : MachineState _). m.first) c.requires.machine in
    subst (λ (first : KernelView _). board_fits first.history.board ≡ true) (ap (λ (m : MachineState _). m.first) c.self.view_is ∙ sym same) c.self.invariant.4

pub call_with-requires-clause-free : goal.call_with-requires-clause-free
call_with-requires-clause-free g c =
    let x = c.caller.inside.actor in
    let is = ap actor_of (sym c.caller.view_is) ∙ same_actor (machine_by x) (account_of (seen x.me)) (lock_in x.me.0) (acting x) c.caller.invariant.0.own c.caller.invariant.0.account c.caller.invariant.1 in
    ap (λ (a : ActorState). call_refusal a.wait (holds_stax a.staxes) (holds_mutex a.mutexes) c.args.call) (sym is) ∙ c.requires.free

pub returns-clause-stage : goal.returns-clause-stage
returns-clause-stage g c = at_stage _ _ _ _ c.call_with.ensures.held c.call_with.ensures.suits c.call_with.ensures.rests.own
