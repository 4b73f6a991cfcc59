use Rattle.std.proofs.Common.{None, arith, ap, sym, ◌∙◌, nat_lt, slice_get, subst}
use Rattle.evl_machine.specs.callers.Actors.{acting}
use Rattle.evl_machine.specs.callers.Callers.{machine_by}
use Rattle.evl_machine.specs.calls.Calls.{HoldsAtItsStage}
use Rattle.evl_core.specs.rule.Ceilings.{has_ceiling}
use Rattle.evl_machine.specs.callers.Handles.{CallerState, MachineState}
use Rattle.evl_core.specs.accounts.Seats.{account_of}
use Rattle.evl_core.specs.rule.Known.{seen, lock_in}
use Rattle.evl_machine.specs.calls.Visits.{actor_of}
use Rattle.evl_machine.proofs.mutex_locks.MutexLocks.{begins_by_kernel, none_of, own_lock_is}
use Rattle.evl_core.specs.words.MutexSeats.{depth_at}
use Rattle.evl_machine.proofs.callers.Visits.{same_actor}
use Rattle.evl_machine.proofs.callers.Staying.{at_stage}
use Rattle.evl_machine.proofs.machine.MachineOf.begin_lock_mutex.Goals as goal

pub returns-in-Some-clause-stage : goal.returns-in-Some-clause-stage
returns-in-Some-clause-stage g c = subst HoldsAtItsStage c.caller.view_is (at_stage _ _ _ _ c.lock_refusal.ensures.held c.caller.invariant.1 c.caller.invariant.0.own)

pub returns-clause-begun : goal.returns-clause-begun
returns-clause-begun g c =
    let x = c.caller.inside.actor in
    let actor = ap actor_of (sym c.caller.view_is) ∙ same_actor (machine_by x) (account_of (seen x.me)) (lock_in x.me.0) (acting x) c.caller.invariant.0.own c.caller.invariant.0.account c.caller.invariant.1 in
    begins_by_kernel c.args.caller.now _ (acting x) c.kind-kind.result c.args.mutex c.args.until _ c.has_ceiling.result actor (c.kind-kind.ensures.kind ∙ ap (λ (m : MachineState _). slice_get m.first.history.board.mutexes.items c.args.mutex.0) (sym c.requires.machine)) (sym c.in_default.ensures.refused) (ap (nat_lt 0) (sym c.depth.ensures.depth) ∙ none_of _ c.if-depth-gt0.false) c.has_ceiling.ensures c.begin_with_kernel.ensures.visits

pub nest-requires-clause-unrefused : goal.nest-requires-clause-unrefused
nest-requires-clause-unrefused g c = own_lock_is c.caller.inside.actor c.args.caller.now c.kind-kind.result c.args.mutex None c.caller.view_is c.caller.invariant (c.kind-kind.ensures.kind ∙ ap (λ (m : MachineState _). slice_get m.first.history.board.mutexes.items c.args.mutex.0) (sym c.requires.machine)) (sym c.in_default.ensures.refused)

pub nest-requires-clause-held : goal.nest-requires-clause-held
nest-requires-clause-held g c = omega (arith, c.if-depth-gt0.true, (c.depth.ensures.depth ∙ ap (λ (s : CallerState _). depth_at s.mutexes c.args.mutex.0) c.caller.view_is))

pub begin_with_kernel-requires-clause-unrefused : goal.begin_with_kernel-requires-clause-unrefused
begin_with_kernel-requires-clause-unrefused g c = own_lock_is c.caller.inside.actor c.args.caller.now c.kind-kind.result c.args.mutex None c.caller.view_is c.caller.invariant (c.kind-kind.ensures.kind ∙ ap (λ (m : MachineState _). slice_get m.first.history.board.mutexes.items c.args.mutex.0) (sym c.requires.machine)) (sym c.in_default.ensures.refused)

pub begin_with_kernel-requires-clause-kind : goal.begin_with_kernel-requires-clause-kind
begin_with_kernel-requires-clause-kind g c = ap has_ceiling (sym (c.kind-kind.ensures.kind ∙ ap (λ (m : MachineState _). slice_get m.first.history.board.mutexes.items c.args.mutex.0) (sym c.requires.machine))) ∙ sym c.has_ceiling.ensures
