use Rattle.std.proofs.Common.{ap, sym, ◌∙◌, subst}
use Rattle.evl_base.specs.Board.{board_fits}
use Rattle.evl_kernel.specs.state.KernelViews.{KernelView}
use Rattle.evl_core.specs.declared.views.Account.{Account}
use Rattle.evl_core.specs.worlds.Events.{FailsToTake, Takes}
use Rattle.evl_machine.specs.callers.Handles.{CallerState, MachineState, turned_away}
use Rattle.evl_core.specs.accounts.Seats.{account_of}
use Rattle.evl_core.specs.rule.Known.{lock_in, seen}
use Rattle.evl_core.specs.lock.Lock.{LockView}
use Rattle.evl_machine.proofs.callers.Opened.{owned_seats}
use Rattle.evl_machine.proofs.callers.Visits.{caller_lost, has_taken_it, took_it}
use Rattle.evl_machine.proofs.machine.MachineOf.take.Goals as goal

pub open-requires-clause-machine : goal.open-requires-clause-machine
open-requires-clause-machine g c = ap (λ (s : CallerState _). s.machine.id) c.caller.view_is ∙ ap (λ (m : MachineState _). m.id) c.requires

pub invariant_of-result : goal.invariant_of-result
invariant_of-result g c =
    has_taken_it c.in-Some.ensures c.caller.invariant.1 (ap (λ (s : CallerState _). s.machine) c.caller.view_is ∙ c.requires) (ap (λ (s : MachineState _). board_fits s.first.history.board) (sym c.self.view_is) ∙ c.self.invariant.4)

pub returns-in-Some-clause-taken : goal.returns-in-Some-clause-taken
returns-in-Some-clause-taken g c = took_it c.in-Some.ensures c.caller.view_is c.requires (owned_seats c.in-Some.ensures)

pub returns-in-Some-clause-event : goal.returns-in-Some-clause-event
returns-in-Some-clause-event g c =
    let first = ap (λ (s : CallerState _). s.machine.first) c.caller.view_is ∙ ap (λ (m : MachineState _). m.first) c.requires in
    let account = ap (λ (s : CallerState _). s.account) c.caller.view_is in
    let lock = ap (λ (s : CallerState _). s.lock) c.caller.view_is in
    subst (λ (z : KernelView _ × Account × LockView). Takes z.0 z.1 z.2 (account_of (seen c.open.new.actor.me)) (lock_in c.open.new.actor.me.0)) (λ i. (first i, account i, lock i)) c.in-Some.ensures.event

pub returns-in-None-clause-taken : goal.returns-in-None-clause-taken
returns-in-None-clause-taken g c = caller_lost c.in-None.ensures ∙ ap (turned_away (lock_in c.open.new.actor.me.0)) c.caller.view_is

pub returns-in-None-clause-event : goal.returns-in-None-clause-event
returns-in-None-clause-event g c =
    let first = ap (λ (s : CallerState _). s.machine.first) c.caller.view_is ∙ ap (λ (m : MachineState _). m.first) c.requires in
    let account = ap (λ (s : CallerState _). s.account) c.caller.view_is in
    let lock = ap (λ (s : CallerState _). s.lock) c.caller.view_is in
    subst (λ (z : KernelView _ × Account × LockView). FailsToTake z.0 z.1 z.2 (account_of (seen c.open.new.actor.me)) (lock_in c.open.new.actor.me.0)) (λ i. (first i, account i, lock i)) c.in-None.ensures.event
