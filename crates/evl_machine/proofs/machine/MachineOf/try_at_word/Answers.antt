use Rattle.std.proofs.Common.{◌≡◌, slice_get, refl, ap, sym, ◌∙◌, subst}
use Rattle.evl_machine.specs.declared.caller.CallerOf.TheInside.{Inside}
use Rattle.evl_machine.specs.callers.Actors.{acting}
use Rattle.evl_machine.specs.callers.Callers.{IsResting, caller_by}
use Rattle.evl_core.specs.rule.Ceilings.{has_ceiling}
use Rattle.evl_machine.specs.callers.Handles.{CallerState, MachineState}
use Rattle.evl_machine.specs.mutex_locks.MutexLocks.{kinds_of}
use Rattle.evl_core.specs.words.MutexSeats.{TriesMutex}
use Rattle.evl_core.specs.words.MutexTokens.{seats_at}
use Rattle.evl_machine.proofs.callers.Opened.{free_there, lock_open}
use Rattle.evl_machine.proofs.mutex_locks.SeatsAt.{at_table}
use Rattle.evl_machine.proofs.callers.Visits.{actor_at_mutexes, stage_resting}
use Rattle.evl_machine.proofs.mutex_locks.WordCalls.{actor_in, caller_stepped, resting_stepped, tries_so}
use Rattle.evl_machine.proofs.callers.OneSteps.{steps_in_one}
use Rattle.evl_words.specs.MutexWorld.{tries}
use Rattle.evl_core.specs.worlds.OneWorld.{on_word}
use Rattle.evl_machine.proofs.machine.MachineOf.try_at_word.Goals as goal

pub try_there-requires-clause-table : goal.try_there-requires-clause-table
try_there-requires-clause-table g c =
    let X = actor_in c.caller-inside.invariant in
    let was : caller_by X ≡ _ = ap (λ (x : Inside _ _). caller_by x.actor) c.caller-inside.view_is ∙ c.caller.view_is in
    let machine = c.requires.machine ∙ sym c.self.view_is in
    at_table X _ _ (ap (λ (s : CallerState _). s.machine.id) was ∙ ap (λ (m : MachineState _). m.id) machine) (ap (λ (s : CallerState _). s.machine.first) was ∙ ap (λ (m : MachineState _). m.first) machine) c.caller-inside.invariant.places

pub try_there-requires-clause-plain : goal.try_there-requires-clause-plain
try_there-requires-clause-plain g c = ap (λ (m : MachineState _). has_ceiling (slice_get m.first.history.board.mutexes.items c.args.mutex.0)) (c.self.view_is ∙ sym c.requires.machine) ∙ c.requires.plain

pub try_there-requires-clause-free : goal.try_there-requires-clause-free
try_there-requires-clause-free g c =
    let X = actor_in c.caller-inside.invariant in
    let was : caller_by X ≡ _ = ap (λ (x : Inside _ _). caller_by x.actor) c.caller-inside.view_is ∙ c.caller.view_is in
    let machine = c.requires.machine ∙ sym c.self.view_is in
    free_there X X _ c.args.mutex was _ _ _ (ap (λ (s : CallerState _). s.machine.mutexes) was ∙ ap (λ (m : MachineState _). m.mutexes) machine) (ap (λ (s : CallerState _). s.machine.first) was ∙ ap (λ (m : MachineState _). m.first) machine) c.self.invariant.3 c.requires.unrefused c.requires.free

pub invariant_of-caller-inside : goal.invariant_of-caller-inside
invariant_of-caller-inside g c =
    let X = actor_in c.caller-inside.invariant in
    let was : caller_by X ≡ _ = ap (λ (x : Inside _ _). caller_by x.actor) c.caller-inside.view_is ∙ c.caller.view_is in
    let machine = c.requires.machine ∙ sym c.self.view_is in
    actor_at_mutexes X _ _ _ _ _ c.caller-inside.invariant (ap (λ (s : CallerState _). s.machine.id) was ∙ ap (λ (m : MachineState _). m.id) machine) (ap (λ (s : CallerState _). s.machine.first) was ∙ ap (λ (m : MachineState _). m.first) machine) c.try_there.ensures.word.core c.try_there.ensures.word.table

pub invariant_of-caller : goal.invariant_of-caller
invariant_of-caller g c =
    let X = actor_in c.caller-inside.invariant in
    let was : caller_by X ≡ _ = ap (λ (x : Inside _ _). caller_by x.actor) c.caller-inside.view_is ∙ c.caller.view_is in
    let machine = c.requires.machine ∙ sym c.self.view_is in
    resting_stepped X c.try_there.new.seat.table_id c.try_there.new.seat.me c.try_there.new.places c.try_there.ensures.word.core (c.try_there.ensures.word.table.same ∙ sym (ap (λ (s : CallerState _). s.machine.id) was ∙ ap (λ (m : MachineState _). m.id) machine)) (subst (λ (x : Inside _ _). IsResting x.actor) (sym c.caller-inside.view_is) c.caller.invariant)

pub returns-clause-machine : goal.returns-clause-machine
returns-clause-machine g c =
    let X = actor_in c.caller-inside.invariant in
    let was : caller_by X ≡ _ = ap (λ (x : Inside _ _). caller_by x.actor) c.caller-inside.view_is ∙ c.caller.view_is in
    let machine = c.requires.machine ∙ sym c.self.view_is in
    ap (λ (s : CallerState _). s.machine) (caller_stepped X c.try_there.new.seat.table_id c.try_there.new.seat.me c.try_there.new.places c.try_there.ensures.word.core (c.try_there.ensures.word.table.same ∙ sym (ap (λ (s : CallerState _). s.machine.id) was ∙ ap (λ (m : MachineState _). m.id) machine)) c.try_there.ensures.word.seats _ was (λ a b. Unit {0}) tt).0

pub returns-clause-tried : goal.returns-clause-tried
returns-clause-tried g c =
    let X = actor_in c.caller-inside.invariant in
    let was : caller_by X ≡ _ = ap (λ (x : Inside _ _). caller_by x.actor) c.caller-inside.view_is ∙ c.caller.view_is in
    let machine = c.requires.machine ∙ sym c.self.view_is in
    let kinds = ap (λ (m : MachineState _). m.first.history.board.mutexes.items) (c.self.view_is ∙ sym c.requires.machine) in
    let may = lock_open X X _ c.args.mutex was refl _ _ _ (ap (λ (s : CallerState _). s.machine.mutexes) was ∙ ap (λ (m : MachineState _). m.mutexes) machine) (ap (λ (s : CallerState _). s.machine.first) was ∙ ap (λ (m : MachineState _). m.first) machine) c.self.invariant.3 c.requires.unrefused in
    let call = caller_stepped X c.try_there.new.seat.table_id c.try_there.new.seat.me c.try_there.new.places c.try_there.ensures.word.core (c.try_there.ensures.word.table.same ∙ sym (ap (λ (s : CallerState _). s.machine.id) was ∙ ap (λ (m : MachineState _). m.id) machine)) c.try_there.ensures.word.seats c.args.caller.now was (λ a b. TriesMutex (kinds_of c.args.caller.now) a c.args.mutex.0 c.try_there.result b) (subst (λ ks. TriesMutex ks (acting X).mutexes c.args.mutex.0 c.try_there.result (seats_at c.try_there.new.seat.table_id c.try_there.new.seat.me.0 c.try_there.new.places)) kinds (tries_so c.self.inside.core.shared.key.value.history.board.mutexes.items (acting X).mutexes (seats_at c.try_there.new.seat.table_id c.try_there.new.seat.me.0 c.try_there.new.places) c.args.mutex.0 c.try_there.result may (c.try_there.ensures.pass, c.try_there.ensures.word.at))) in
    (call.0, call.1, λ _. steps_in_one X (record X { table = c.try_there.new.seat.table_id; me = c.try_there.new.seat.me; places = c.try_there.new.places }) _ was (on_word c.args.mutex.0 tries) c.try_there.ensures.event)

pub returns-clause-stage : goal.returns-clause-stage
returns-clause-stage g c =
    let X = actor_in c.caller-inside.invariant in
    let was : caller_by X ≡ _ = ap (λ (x : Inside _ _). caller_by x.actor) c.caller-inside.view_is ∙ c.caller.view_is in
    let machine = c.requires.machine ∙ sym c.self.view_is in
    stage_resting (record X { table = c.try_there.new.seat.table_id; me = c.try_there.new.seat.me; places = c.try_there.new.places }) c.caller-inside.invariant.held (resting_stepped X c.try_there.new.seat.table_id c.try_there.new.seat.me c.try_there.new.places c.try_there.ensures.word.core (c.try_there.ensures.word.table.same ∙ sym (ap (λ (s : CallerState _). s.machine.id) was ∙ ap (λ (m : MachineState _). m.id) machine)) (subst (λ (x : Inside _ _). IsResting x.actor) (sym c.caller-inside.view_is) c.caller.invariant))
