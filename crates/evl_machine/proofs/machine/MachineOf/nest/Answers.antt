use Rattle.std.proofs.Common.{◌≡◌, ◌+◌, Ok, refl, ap, sym, ◌∙◌, subst, arith}
use Rattle.evl_machine.specs.declared.caller.CallerOf.TheInside.{Inside}
use Rattle.evl_machine.specs.callers.Actors.{acting}
use Rattle.evl_machine.specs.callers.Callers.{caller_by}
use Rattle.evl_machine.specs.callers.Handles.{CallerState, MachineState}
use Rattle.evl_machine.specs.mutex_locks.MutexLocks.{kinds_of}
use Rattle.evl_core.specs.words.MutexSeats.{TriesMutex, UnlocksMutex, unlock_refusal}
use Rattle.evl_core.specs.words.MutexTokens.{seats_at}
use Rattle.evl_machine.proofs.callers.Opened.{lock_open, nests_there}
use Rattle.evl_machine.proofs.mutex_locks.WordCalls.{actor_in, caller_stepped, nests_so, same_at_depth, tries_so, depth_is, its_deeper, no_step, one_deeper}
use Rattle.evl_machine.proofs.machine.MachineOf.nest.Goals as goal

pub nest-requires : goal.nest-requires
nest-requires g c =
    let X = actor_in c.caller-inside.invariant in
    let was : caller_by X ≡ _ = ap (λ (x : Inside _ _). caller_by x.actor) c.caller-inside.view_is ∙ c.caller.view_is in
    let machine = c.requires.machine ∙ sym c.self.view_is in
    record { there = nests_there X X _ c.args.mutex was _ _ _ (ap (λ (s : CallerState _). s.machine.mutexes) was ∙ ap (λ (m : MachineState _). m.mutexes) machine) (ap (λ (s : CallerState _). s.machine.first) was ∙ ap (λ (m : MachineState _). m.first) machine) c.self.invariant.3 c.requires.unrefused c.requires.held }

pub invariant_of-caller-inside : goal.invariant_of-caller-inside
invariant_of-caller-inside g c =
    let X = actor_in c.caller-inside.invariant in
    let was : caller_by X ≡ _ = ap (λ (x : Inside _ _). caller_by x.actor) c.caller-inside.view_is ∙ c.caller.view_is in
    let at = c.nest.ensures.nested in
    let depth = depth_is X _ c.args.mutex.0 at.was was at.there in
    its_deeper X _ _ (λ d. d + 1) c.caller-inside.invariant at (one_deeper at.was.depth (omega (arith, depth, c.requires.held)))

pub returns-clause-machine : goal.returns-clause-machine
returns-clause-machine g c =
    let X = actor_in c.caller-inside.invariant in
    let was : caller_by X ≡ _ = ap (λ (x : Inside _ _). caller_by x.actor) c.caller-inside.view_is ∙ c.caller.view_is in
    let machine = c.requires.machine ∙ sym c.self.view_is in
    ap (λ (s : CallerState _). s.machine) (caller_stepped X X.table X.me c.nest.new.self (no_step X.me) refl (same_at_depth X.table X.me.0 c.args.mutex.0 (λ d. d + 1) X.places c.nest.new.self c.nest.ensures.nested) _ was (λ a b. Unit {0}) tt).0

pub returns-clause-tried : goal.returns-clause-tried
returns-clause-tried g c =
    let X = actor_in c.caller-inside.invariant in
    let was : caller_by X ≡ _ = ap (λ (x : Inside _ _). caller_by x.actor) c.caller-inside.view_is ∙ c.caller.view_is in
    let machine = c.requires.machine ∙ sym c.self.view_is in
    let kinds = ap (λ (m : MachineState _). m.first.history.board.mutexes.items) (c.self.view_is ∙ sym c.requires.machine) in
    let may = lock_open X X _ c.args.mutex was refl _ _ _ (ap (λ (s : CallerState _). s.machine.mutexes) was ∙ ap (λ (m : MachineState _). m.mutexes) machine) (ap (λ (s : CallerState _). s.machine.first) was ∙ ap (λ (m : MachineState _). m.first) machine) c.self.invariant.3 c.requires.unrefused in
    let held = ap (λ (s : CallerState _). Rattle.evl_core.specs.words.MutexSeats.depth_at s.mutexes c.args.mutex.0) was in
    caller_stepped X X.table X.me c.nest.new.self (no_step X.me) refl (same_at_depth X.table X.me.0 c.args.mutex.0 (λ d. d + 1) X.places c.nest.new.self c.nest.ensures.nested) c.args.caller.now was (λ a b. TriesMutex (kinds_of c.args.caller.now) a c.args.mutex.0 (Ok c.nest.result) b) (subst (λ ks. TriesMutex ks (acting X).mutexes c.args.mutex.0 (Ok c.nest.result) (seats_at X.table X.me.0 c.nest.new.self)) kinds (tries_so c.self.inside.core.shared.key.value.history.board.mutexes.items (acting X).mutexes (seats_at X.table X.me.0 c.nest.new.self) c.args.mutex.0 (Ok c.nest.result) may (nests_so X.table X.me.0 c.args.mutex.0 X.places c.nest.new.self c.nest.result (λ e. absurd (omega (arith, c.requires.held, held, e))) c.caller-inside.invariant.places.its.placed c.nest.ensures.pass c.nest.ensures.nested)))
