use Rattle.std.proofs.Common.{◌≡◌, ◌<◌, Ok, refl, ap, sym, ◌∙◌, subst}
use Rattle.evl_machine.specs.declared.caller.CallerOf.TheInside.{Inside}
use Rattle.evl_words.specs.declared.mutex.Unlock.TheVariants.{Done}
use Rattle.evl_machine.specs.callers.Actors.{acting}
use Rattle.evl_machine.specs.callers.Callers.{caller_by}
use Rattle.evl_machine.specs.callers.Handles.{CallerState}
use Rattle.evl_core.specs.words.MutexSeats.{TriesMutex, UnlocksMutex, unlock_refusal}
use Rattle.evl_core.specs.words.MutexTokens.{TellsTheSame, seats_at}
use Rattle.evl_machine.proofs.mutex_locks.WordCalls.{actor_in, caller_stepped, same_at_depth, spends_so, unlocks_so, depth_is, held_there, its_deeper, no_step, one_less}
use Rattle.evl_core.proofs.words.MutexStepLaws.{said_there}
use Rattle.evl_core.specs.words.MutexPlaces.{less}
use Rattle.evl_machine.proofs.machine.MachineOf.spend.Goals as goal

pub spend-requires : goal.spend-requires
spend-requires g c =
    let X = actor_in c.caller-inside.invariant in
    let was : caller_by X ≡ _ = ap (λ (x : Inside _ _). caller_by x.actor) c.caller-inside.view_is ∙ c.caller.view_is in
    let machine = c.requires.machine ∙ sym c.self.view_is in
    record { held = held_there X _ c.args.pass was c.requires.own }

pub returns-clause-machine : goal.returns-clause-machine
returns-clause-machine g c =
    let X = actor_in c.caller-inside.invariant in
    let was : caller_by X ≡ _ = ap (λ (x : Inside _ _). caller_by x.actor) c.caller-inside.view_is ∙ c.caller.view_is in
    let machine = c.requires.machine ∙ sym c.self.view_is in
    ap (λ (s : CallerState _). s.machine) (caller_stepped X X.table X.me c.spend.new.self (no_step X.me) refl (same_at_depth X.table X.me.0 c.args.pass.mutex.0 less X.places c.spend.new.self c.spend.ensures.spent) _ was (λ a b. Unit {0}) tt).0

pub returns-clause-unlocked : goal.returns-clause-unlocked
returns-clause-unlocked g c =
    let X = actor_in c.caller-inside.invariant in
    let was : caller_by X ≡ _ = ap (λ (x : Inside _ _). caller_by x.actor) c.caller-inside.view_is ∙ c.caller.view_is in
    let machine = c.requires.machine ∙ sym c.self.view_is in
    let held = ap (λ (s : CallerState _). Rattle.evl_core.specs.words.MutexSeats.depth_at s.mutexes c.args.pass.mutex.0) was in
    let call = caller_stepped X X.table X.me c.spend.new.self (no_step X.me) refl (same_at_depth X.table X.me.0 c.args.pass.mutex.0 less X.places c.spend.new.self c.spend.ensures.spent) c.args.caller.now was (λ a b. UnlocksMutex a c.args.pass (Ok Done) b) (unlocks_so (acting X).mutexes (seats_at X.table X.me.0 c.spend.new.self) c.args.pass Done (ap (λ (s : CallerState _). unlock_refusal s.mutexes c.args.pass) was ∙ c.requires.own) (spends_so X.table X.me.0 X.places c.spend.new.self c.args.pass (λ e. c.requires.more (sym held ∙ e)) c.spend.ensures.spent)) in
    (call.0, call.1, λ once. absurd (c.requires.more once))

pub returns-clause-seats : goal.returns-clause-seats
returns-clause-seats g c =
    let X = actor_in c.caller-inside.invariant in
    let was : caller_by X ≡ _ = ap (λ (x : Inside _ _). caller_by x.actor) c.caller-inside.view_is ∙ c.caller.view_is in
    let machine = c.requires.machine ∙ sym c.self.view_is in
    subst (λ (s : CallerState _). Rattle.evl_core.specs.words.MutexTokens.AreTheSame s.mutexes (seats_at X.table X.me.0 c.spend.new.self)) was (same_at_depth X.table X.me.0 c.args.pass.mutex.0 less X.places c.spend.new.self c.spend.ensures.spent)

pub invariant_of-caller-inside : goal.invariant_of-caller-inside
invariant_of-caller-inside g c =
    let X = actor_in c.caller-inside.invariant in
    let was : caller_by X ≡ _ = ap (λ (x : Inside _ _). caller_by x.actor) c.caller-inside.view_is ∙ c.caller.view_is in
    let at = c.spend.ensures.spent in
    let depth = depth_is X _ c.args.pass.mutex.0 at.was was at.there in
    let some = said_there (λ p. 0 < p.depth) X.places c.args.pass.mutex.0 at.was at.there (held_there X _ c.args.pass was c.requires.own) in
    its_deeper X _ _ less c.caller-inside.invariant at (one_less at.was.depth some (λ e. c.requires.more (sym depth ∙ e)))
