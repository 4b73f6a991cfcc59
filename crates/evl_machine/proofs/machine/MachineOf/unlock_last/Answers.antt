use Rattle.std.proofs.Common.{◌≡◌, slice_get, Ok, ap, sym, ◌∙◌, subst}
use Rattle.evl_machine.specs.declared.caller.CallerOf.TheInside.{Inside}
use Rattle.evl_machine.specs.callers.Actors.{acting}
use Rattle.evl_machine.specs.callers.Callers.{IsResting, caller_by}
use Rattle.evl_core.specs.rule.Ceilings.{has_ceiling}
use Rattle.evl_machine.specs.callers.Handles.{CallerState, MachineState}
use Rattle.evl_core.specs.words.MutexSeats.{UnlocksMutex, unlock_refusal}
use Rattle.evl_core.specs.words.MutexTokens.{seats_at}
use Rattle.evl_machine.proofs.mutex_locks.SeatsAt.{at_table}
use Rattle.evl_machine.proofs.callers.Visits.{actor_at_mutexes, stage_resting}
use Rattle.evl_machine.proofs.mutex_locks.WordCalls.{actor_in, caller_stepped, resting_stepped, unlocks_so, once_there}
use Rattle.evl_machine.proofs.callers.OneSteps.{steps_in_one}
use Rattle.evl_words.specs.MutexWorld.{unlocks}
use Rattle.evl_core.specs.worlds.OneWorld.{on_word}
use Rattle.evl_machine.proofs.machine.MachineOf.unlock_last.Goals as goal

pub unlock_there-requires-clause-table : goal.unlock_there-requires-clause-table
unlock_there-requires-clause-table g c =
    let X = actor_in c.caller-inside.invariant in
    let was : caller_by X ≡ _ = ap (λ (x : Inside _ _). caller_by x.actor) c.caller-inside.view_is ∙ c.caller.view_is in
    let machine = c.requires.machine ∙ sym c.self.view_is in
    at_table X _ _ (ap (λ (s : CallerState _). s.machine.id) was ∙ ap (λ (m : MachineState _). m.id) machine) (ap (λ (s : CallerState _). s.machine.first) was ∙ ap (λ (m : MachineState _). m.first) machine) c.caller-inside.invariant.places

pub unlock_there-requires-clause-plain : goal.unlock_there-requires-clause-plain
unlock_there-requires-clause-plain g c = ap (λ (m : MachineState _). has_ceiling (slice_get m.first.history.board.mutexes.items c.args.pass.mutex.0)) (c.self.view_is ∙ sym c.requires.machine) ∙ c.requires.plain

pub unlock_there-requires-clause-once : goal.unlock_there-requires-clause-once
unlock_there-requires-clause-once g c =
    let X = actor_in c.caller-inside.invariant in
    let was : caller_by X ≡ _ = ap (λ (x : Inside _ _). caller_by x.actor) c.caller-inside.view_is ∙ c.caller.view_is in
    let machine = c.requires.machine ∙ sym c.self.view_is in
    once_there X _ c.args.pass was c.requires.own c.requires.once

pub invariant_of-caller-inside : goal.invariant_of-caller-inside
invariant_of-caller-inside g c =
    let X = actor_in c.caller-inside.invariant in
    let was : caller_by X ≡ _ = ap (λ (x : Inside _ _). caller_by x.actor) c.caller-inside.view_is ∙ c.caller.view_is in
    let machine = c.requires.machine ∙ sym c.self.view_is in
    actor_at_mutexes X _ _ _ _ _ c.caller-inside.invariant (ap (λ (s : CallerState _). s.machine.id) was ∙ ap (λ (m : MachineState _). m.id) machine) (ap (λ (s : CallerState _). s.machine.first) was ∙ ap (λ (m : MachineState _). m.first) machine) c.unlock_there.ensures.word.core c.unlock_there.ensures.word.table

pub invariant_of-caller : goal.invariant_of-caller
invariant_of-caller g c =
    let X = actor_in c.caller-inside.invariant in
    let was : caller_by X ≡ _ = ap (λ (x : Inside _ _). caller_by x.actor) c.caller-inside.view_is ∙ c.caller.view_is in
    let machine = c.requires.machine ∙ sym c.self.view_is in
    resting_stepped X c.unlock_there.new.seat.table_id c.unlock_there.new.seat.me c.unlock_there.new.places c.unlock_there.ensures.word.core (c.unlock_there.ensures.word.table.same ∙ sym (ap (λ (s : CallerState _). s.machine.id) was ∙ ap (λ (m : MachineState _). m.id) machine)) (subst (λ (x : Inside _ _). IsResting x.actor) (sym c.caller-inside.view_is) c.caller.invariant)

pub returns-clause-machine : goal.returns-clause-machine
returns-clause-machine g c =
    let X = actor_in c.caller-inside.invariant in
    let was : caller_by X ≡ _ = ap (λ (x : Inside _ _). caller_by x.actor) c.caller-inside.view_is ∙ c.caller.view_is in
    let machine = c.requires.machine ∙ sym c.self.view_is in
    ap (λ (s : CallerState _). s.machine) (caller_stepped X c.unlock_there.new.seat.table_id c.unlock_there.new.seat.me c.unlock_there.new.places c.unlock_there.ensures.word.core (c.unlock_there.ensures.word.table.same ∙ sym (ap (λ (s : CallerState _). s.machine.id) was ∙ ap (λ (m : MachineState _). m.id) machine)) c.unlock_there.ensures.word.seats _ was (λ a b. Unit {0}) tt).0

pub returns-clause-unlocked : goal.returns-clause-unlocked
returns-clause-unlocked g c =
    let X = actor_in c.caller-inside.invariant in
    let was : caller_by X ≡ _ = ap (λ (x : Inside _ _). caller_by x.actor) c.caller-inside.view_is ∙ c.caller.view_is in
    let machine = c.requires.machine ∙ sym c.self.view_is in
    let call = caller_stepped X c.unlock_there.new.seat.table_id c.unlock_there.new.seat.me c.unlock_there.new.places c.unlock_there.ensures.word.core (c.unlock_there.ensures.word.table.same ∙ sym (ap (λ (s : CallerState _). s.machine.id) was ∙ ap (λ (m : MachineState _). m.id) machine)) c.unlock_there.ensures.word.seats c.args.caller.now was (λ a b. UnlocksMutex a c.args.pass (Ok c.unlock_there.result) b) (unlocks_so (acting X).mutexes (seats_at c.unlock_there.new.seat.table_id c.unlock_there.new.seat.me.0 c.unlock_there.new.places) c.args.pass c.unlock_there.result (ap (λ (s : CallerState _). unlock_refusal s.mutexes c.args.pass) was ∙ c.requires.own) c.unlock_there.ensures.word.at) in
    (call.0, call.1, λ _. steps_in_one X (record X { table = c.unlock_there.new.seat.table_id; me = c.unlock_there.new.seat.me; places = c.unlock_there.new.places }) _ was (on_word c.args.pass.mutex.0 unlocks) c.unlock_there.ensures.event)

pub returns-clause-seats : goal.returns-clause-seats
returns-clause-seats g c =
    let X = actor_in c.caller-inside.invariant in
    let was : caller_by X ≡ _ = ap (λ (x : Inside _ _). caller_by x.actor) c.caller-inside.view_is ∙ c.caller.view_is in
    let machine = c.requires.machine ∙ sym c.self.view_is in
    subst (λ (s : CallerState _). Rattle.evl_core.specs.words.MutexTokens.AreTheSame s.mutexes (seats_at c.unlock_there.new.seat.table_id c.unlock_there.new.seat.me.0 c.unlock_there.new.places)) was c.unlock_there.ensures.word.seats

pub returns-clause-stage : goal.returns-clause-stage
returns-clause-stage g c =
    let X = actor_in c.caller-inside.invariant in
    let was : caller_by X ≡ _ = ap (λ (x : Inside _ _). caller_by x.actor) c.caller-inside.view_is ∙ c.caller.view_is in
    let machine = c.requires.machine ∙ sym c.self.view_is in
    stage_resting (record X { table = c.unlock_there.new.seat.table_id; me = c.unlock_there.new.seat.me; places = c.unlock_there.new.places }) c.caller-inside.invariant.held (resting_stepped X c.unlock_there.new.seat.table_id c.unlock_there.new.seat.me c.unlock_there.new.places c.unlock_there.ensures.word.core (c.unlock_there.ensures.word.table.same ∙ sym (ap (λ (s : CallerState _). s.machine.id) was ∙ ap (λ (m : MachineState _). m.id) machine)) (subst (λ (x : Inside _ _). IsResting x.actor) (sym c.caller-inside.view_is) c.caller.invariant))
