-- The mutex after the deeds of a caller at rest by itself.
use Rattle.std.proofs.Common.{◌≡◌, ◌≢◌, ◌<◌, ◌+◌, ◌==◌, ◌&&◌, ℕ, nat_lt, if◌then◌else◌, Bool, true, false, true≢false, List, length, map, Option, Some, None, IsSomeAnd, MatchBool, MatchOption, Result, Ok, Err, slice_get, eqb-true, eq-eqb, ne_eqb, length-set, refl, sym, ap, ◌∙◌, subst, arith}
use Rattle.std.specs.Option.{option_map, option_map_or}
use Rattle.std.proofs.lemmas.Bool.Decides.{nat_tests}
use Rattle.std.proofs.lemmas.Option.{none-some, slice_get-map}
use Rattle.atomic_table.specs.Seated.{TableId}
use Rattle.evl_base.specs.declared.mutex_kind.MutexKind.{MutexKind}
use Rattle.evl_base.specs.declared.numbers.MutexId.{MutexId}
use Rattle.evl_base.specs.declared.refusal.Refusal.{Refusal}
use Rattle.evl_base.specs.declared.refusal.Refusal.TheVariants.{CoreBusy, NotOwner}
use Rattle.evl_kernel.specs.state.KernelViews.{KernelView}
use Rattle.evl_words.specs.MutexCalls.{MutexSeatState, at_depth}
use Rattle.evl_words.specs.MutexPlaces.{IsOfPlace, is_pass_of}
use Rattle.evl_words.specs.declared.mutex.MutexPass.{MutexPass}
use Rattle.evl_words.specs.declared.mutex.Unlock.{Unlock}
use Rattle.evl_words.specs.declared.mutex.Unlock.TheVariants.{Done}
use Rattle.evl_words.specs.declared.mutex.place.MutexPlace.{MutexPlace}
use Rattle.evl_words.proofs.Sequences.{map-set}
use Rattle.evl_machine.specs.callers.Actors.{AwaitsOneOf, IsActor, SeatedActor, Suits, acting}
use Rattle.evl_core.specs.words.AtSeats.{AtSeat}
use Rattle.evl_machine.specs.callers.Callers.{IsResting, caller_by}
use Rattle.evl_core.specs.accounts.Seats.{IsCaller, account_of, CoreMe}
use Rattle.evl_machine.specs.callers.Handles.{CallerState, caller_of}
use Rattle.evl_core.specs.rule.Known.{CoreHand, KernelMe, seen}
use Rattle.evl_machine.specs.mutex_locks.MutexLocks.{MutexCall, TriesToLock, WordCall, kind_of, kinds_of, own_lock_refusal}
use Rattle.evl_machine.specs.mutex_locks.Locking.{LocksRaised}
use Rattle.evl_machine.specs.calls.Visits.{Visits}
use Rattle.evl_core.specs.rule.Ceilings.{has_ceiling}
use Rattle.evl_core.specs.words.MutexPlaces.{Deepens, HoldsBy, less, place_passes}
use Rattle.evl_core.specs.words.MutexSeats.{Gains, IsOfMutex, Tries, TriesMutex, UnlocksMutex, UnlocksSo, depth_at, is_recursive, mutex_refusal, owner_refusal, unlock_refusal}
use Rattle.evl_core.specs.words.MutexTokens.{AreTheSame, TellsTheSame, seat_at, seats_at}
use Rattle.evl_words.specs.MutexWorld.{owns, tries}
use Rattle.evl_core.specs.rule.ThreadRule.{mutex_of}
use Rattle.evl_core.specs.worlds.OneWorld.{on_word}
use Rattle.evl_core.proofs.words.SeatLists.{each-set}
use Rattle.evl_machine.proofs.mutex_locks.SeatsAt.{depth_there, refusal_there, some_also}

-- the actor of which this is known
abbrev pub actor_in : {C : Type 0} {x : SeatedActor C} → IsActor x → SeatedActor C
actor_in {C} {x} is = x

at_false : (b : Bool) (P Q : Type 0) → b ≡ false → Q → MatchBool b P Q
at_false b P Q is q = subst (λ b. MatchBool b P Q) (sym is) q

at_none : {A : Type 0} (o : Option A) (P : Type 0) (Q : A → Type 0) → o ≡ None → P → MatchOption o P Q
at_none o P Q is p = subst (λ o. MatchOption o P Q) (sym is) p

module _ {C : Type 0} (x : SeatedActor C) (table : TableId) (me : KernelMe C) (places : List MutexPlace) (core : TellsTheSame x.me me) (same : table ≡ x.table) where
  abbrev pub stepped : SeatedActor C
  stepped = record x { table = table; me = me; places = places }

  pub resting_stepped : IsResting x → IsResting stepped
  resting_stepped is = (
    subst (λ (m : CoreMe (KernelView C)). IsCaller m x.thread) (sym core.core) is.0,
    record { stage = (was is).stage; wait = (was is).wait },
  )
    where
      was : IsResting x → Suits (acting x) (account_of (seen me)).seen
      was is = subst (λ (m : CoreMe (KernelView C)). Suits (acting x) (account_of m).seen) (sym core.core) is.1

  -- of its caller nothing but its seats at the mutexes changes
  pub caller_stepped : AreTheSame (acting x).mutexes (seats_at table me.0 places) → (old : CallerState C) → caller_by x ≡ old → (does : List MutexSeatState → List MutexSeatState → Type 0) → does (acting x).mutexes (seats_at table me.0 places) → MutexCall old does (caller_by stepped)
  caller_stepped seats old was does did = (
    (λ i. caller_of (record { id = same i; first = core.first i; staxes = map Rattle.evl_core.specs.words.Homes.stax_home x.staxes; mutexes = seats.homes i }) (account_of (core.core i)) (core.lock i) x.staxes (seats_at table me.0 places)) ∙ ap (λ (s : CallerState C). record s { mutexes = seats_at table me.0 places }) was,
    subst (λ (s : CallerState C). does s.mutexes (seats_at table me.0 places)) was did,
  )

-- a try of what may be locked
pub tries_so : (kinds : List MutexKind) (old new : List MutexSeatState) (i : ℕ) (r : Result MutexPass Refusal) → mutex_refusal kinds old i ≡ None → IsOfMutex i r × AtSeat i old new (Tries r) → TriesMutex kinds old i r new
tries_so kinds old new i r none told = at_none (mutex_refusal kinds old i) (IsOfMutex i r × AtSeat i old new (Tries r)) (λ refusal. (r ≡ Err refusal) × (new ≡ old)) none told

-- a lock of a mutex without a ceiling that the caller has already, with no step
pub locks_again : {C : Type 0} (old new : CallerState C) (mutex : MutexId) (pass : MutexPass) → own_lock_refusal old mutex ≡ None → has_ceiling (kind_of old mutex) ≡ false → 0 < depth_at old.mutexes mutex.0
    → MutexCall old (λ was is. TriesMutex (kinds_of old) was mutex.0 (Ok pass) is) new → TriesToLock old mutex (Ok pass) new
locks_again {C} old new mutex pass free plain held call = at_none (own_lock_refusal old mutex) (MatchBool (has_ceiling (kind_of old mutex)) Visit Again) (λ refusal. (answer ≡ Err refusal) × (new ≡ old)) free
    (at_false (has_ceiling (kind_of old mutex)) Visit Again plain (call.0, call.1, λ none. absurd (omega (arith, held, none))))
  where
    answer : Result MutexPass Refusal
    answer = Ok pass

    Visit : Type 0
    Visit = Visits (answer ≡ Err CoreBusy) old (λ a k a' k'. LocksRaised (kinds_of old) a k mutex answer a' k') new

    Again : Type 0
    Again = WordCall (depth_at old.mutexes mutex.0 ≡ 0) (on_word mutex.0 tries) old (λ was is. TriesMutex (kinds_of old) was mutex.0 answer is) new

-- an unlocking by a pass that is spent
pub unlocks_so : (old new : List MutexSeatState) (pass : MutexPass) (u : Unlock) → unlock_refusal old pass ≡ None → AtSeat pass.mutex.0 old new (UnlocksSo pass (Ok u)) → UnlocksMutex old pass (Ok u) new
unlocks_so old new pass u none told = at_none (unlock_refusal old pass) (AtSeat pass.mutex.0 old new (UnlocksSo pass (Ok u))) (λ refusal. (◌≡◌ {A = Result Unlock (Refusal × MutexPass)} (Ok u) (Err (refusal, pass))) × (new ≡ old)) none told

-- a seat whose place holds the mutex more or less often
pub deepened_seat : {C : Type 0} (table : TableId) (hand : CoreHand C) (i : ℕ) (f : ℕ → ℕ) (ps ps' : List MutexPlace) → Deepens i f ps ps' → AtSeat i (seats_at table hand ps) (seats_at table hand ps') (λ was is. is ≡ at_depth (f was.depth) was)
deepened_seat table hand i f ps ps' at = record {
  was = seat_at table hand at.was;
  is = seat_at table hand at.is;
  there = slice_get-map (seat_at table hand) ps i ∙ ap (option_map (seat_at table hand)) at.there;
  changed = ap (seats_at table hand) at.changed ∙ map-set (seat_at table hand) ps i at.is;
  does = ap (seat_at table hand) at.does;
}

pub same_at_depth : {C : Type 0} (table : TableId) (hand : CoreHand C) (i : ℕ) (f : ℕ → ℕ) (ps ps' : List MutexPlace) → Deepens i f ps ps' → AreTheSame (seats_at table hand ps) (seats_at table hand ps')
same_at_depth table hand i f ps ps' at =
    let one = deepened_seat table hand i f ps ps' at in record {
      homes = ap (map Rattle.evl_core.specs.words.Homes.mutex_home) one.changed ∙ Rattle.evl_core.proofs.words.SeatLists.map-kept Rattle.evl_core.specs.words.Homes.mutex_home (seats_at table hand ps) i one.was one.is one.there (ap Rattle.evl_core.specs.words.Homes.mutex_home one.does);
      numbers = ap (map (λ (s : MutexSeatState). s.number)) one.changed ∙ Rattle.evl_core.proofs.words.SeatLists.map-kept (λ (s : MutexSeatState). s.number) (seats_at table hand ps) i one.was one.is one.there (ap (λ (s : MutexSeatState). s.number) one.does);
    }

-- a mutex that is had once more
pub nests_so : {C : Type 0} (table : TableId) (hand : CoreHand C) (i : ℕ) (ps ps' : List MutexPlace) (pass : MutexPass) → depth_at (seats_at table hand ps) i ≢ 0 → ((j : ℕ) (p : MutexPlace) → slice_get ps j ≡ Some p → p.mutex.0 ≡ j) → HoldsBy pass i ps → Deepens i (λ d. d + 1) ps ps'
    → IsOfMutex i (Ok pass) × AtSeat i (seats_at table hand ps) (seats_at table hand ps') (Tries (Ok pass))
unfolding deepened_seat
nests_so table hand i ps ps' pass held placed mine at =
    let one = deepened_seat table hand i (λ d. d + 1) ps ps' at in
    let own : IsOfPlace pass at.was = subst (λ (o : Option MutexPlace). IsSomeAnd o (λ p. IsOfPlace pass p)) at.there mine in
    let depth : depth_at (seats_at table hand ps) i ≡ at.was.depth = ap (λ (o : Option MutexSeatState). option_map_or Rattle.evl_core.specs.words.MutexSeats.mutex_passes o 0) one.there in
    let some : (at.was.depth == 0) ≡ false = ne_eqb at.was.depth 0 (λ e. held (depth ∙ e)) in (
      ap (λ m. m.0) own.0 ∙ placed i at.was at.there,
      record {
        was = one.was;
        is = one.is;
        there = one.there;
        changed = one.changed;
        does = (own, at_false (one.was.depth == 0) _ _ some one.does);
      },
    )

both : (a b c : Bool) → (if a && b && c then None else Some NotOwner) ≡ None → (a ≡ true) × (b ≡ true) × (c ≡ true)
both true true true is = (refl, refl, refl)
both true true false is = absurd (none-some NotOwner (sym is))
both true false c is = absurd (none-some NotOwner (sym is))
both false b c is = absurd (none-some NotOwner (sym is))

-- a place whose pass may be spent
pub own_place : {C : Type 0} (table : TableId) (hand : CoreHand C) (ps : List MutexPlace) (pass : MutexPass) → unlock_refusal (seats_at table hand ps) pass ≡ None → IsSomeAnd (slice_get ps pass.mutex.0) (λ p. IsOfPlace pass p × (0 < p.depth))
own_place table hand ps pass none = by (slice_get ps pass.mutex.0) (sym (refusal_there table hand ps pass) ∙ none)
  where
    by : (o : Option MutexPlace) → option_map_or (λ p. if is_pass_of pass p then None else Some NotOwner) o (Some NotOwner) ≡ None → IsSomeAnd o (λ p. IsOfPlace pass p × (0 < p.depth))
    by None is = absurd (none-some NotOwner (sym is))
    by (Some p) is =
        let same = both (pass.mutex.0 == p.mutex.0) (pass.seat == p.number) (nat_lt 0 p.depth) is in
        (((λ i. record { 0 = eqb-true pass.mutex.0 p.mutex.0 same.0 i }), eqb-true pass.seat p.number same.1), grind (arith, nat_tests))

-- a pass that is spent with no step
pub spends_so : {C : Type 0} (table : TableId) (hand : CoreHand C) (ps ps' : List MutexPlace) (pass : MutexPass) → depth_at (seats_at table hand ps) pass.mutex.0 ≢ 1 → Deepens pass.mutex.0 less ps ps' → AtSeat pass.mutex.0 (seats_at table hand ps) (seats_at table hand ps') (UnlocksSo pass (Ok Done))
unfolding deepened_seat
spends_so table hand ps ps' pass more at =
    let one = deepened_seat table hand pass.mutex.0 less ps ps' at in
    let depth : depth_at (seats_at table hand ps) pass.mutex.0 ≡ at.was.depth = ap (λ (o : Option MutexSeatState). option_map_or Rattle.evl_core.specs.words.MutexSeats.mutex_passes o 0) one.there in
    let other : (at.was.depth == 1) ≡ false = ne_eqb at.was.depth 1 (λ e. more (depth ∙ e)) in
    record {
      was = one.was;
      is = one.is;
      there = one.there;
      changed = one.changed;
      does = (
        at_false (one.was.depth == 1) _ _ other (ap (λ (s : MutexSeatState). s.view) one.does),
        at_false (one.was.depth == 1) _ _ other (refl, one.does),
      );
    }

module _ {C : Type 0} where
  pub no_step : (me : KernelMe C) → TellsTheSame me me
  no_step me = record { core = refl; first = refl; lock = refl }

  pub held_there : (x : SeatedActor C) (old : CallerState C) (pass : MutexPass) → caller_by x ≡ old → unlock_refusal old.mutexes pass ≡ None → IsSomeAnd (slice_get x.places pass.mutex.0) (λ p. 0 < p.depth)
  held_there x old pass was own =
      some_also (λ (p : MutexPlace). IsOfPlace pass p × (0 < p.depth)) (λ (p : MutexPlace). 0 < p.depth) x.places pass.mutex.0 (λ p there has. has.1)
      (own_place x.table x.me.0 x.places pass (ap (λ (s : CallerState C). unlock_refusal s.mutexes pass) was ∙ own))

  pub once_there : (x : SeatedActor C) (old : CallerState C) (pass : MutexPass) → caller_by x ≡ old → unlock_refusal old.mutexes pass ≡ None → depth_at old.mutexes pass.mutex.0 ≡ 1 → IsSomeAnd (slice_get x.places pass.mutex.0) (λ p. IsOfPlace pass p × (p.depth ≡ 1))
  once_there x old pass was own once =
      some_also (λ (p : MutexPlace). IsOfPlace pass p × (0 < p.depth)) (λ (p : MutexPlace). IsOfPlace pass p × (p.depth ≡ 1)) x.places pass.mutex.0
      (λ p there has. (has.0, sym (ap (λ (o : Option MutexPlace). option_map_or place_passes o 0) there) ∙ sym (depth_there x.table x.me.0 x.places pass.mutex.0) ∙ ap (λ (s : CallerState C). depth_at s.mutexes pass.mutex.0) was ∙ once))
      (own_place x.table x.me.0 x.places pass (ap (λ (s : CallerState C). unlock_refusal s.mutexes pass) was ∙ own))

  -- how often the place at a mutex holds it that the caller has so often
  pub depth_is : (x : SeatedActor C) (old : CallerState C) (i : ℕ) (p : MutexPlace) → caller_by x ≡ old → slice_get x.places i ≡ Some p → p.depth ≡ depth_at old.mutexes i
  depth_is x old i p was there = sym (ap (λ (o : Option MutexPlace). option_map_or place_passes o 0) there) ∙ sym (depth_there x.table x.me.0 x.places i) ∙ ap (λ (s : CallerState C). depth_at s.mutexes i) was

  -- an actor that has a mutex more or less often, and has it still
  pub its_deeper : (x : SeatedActor C) (places : List MutexPlace) (i : ℕ) (f : ℕ → ℕ) → IsActor x → (at : Deepens i f x.places places) → nat_lt 0 (f at.was.depth) ≡ nat_lt 0 at.was.depth → IsActor (record x { places = places })
  its_deeper x places i f is at stays =
      let its = is.places.its in
      let long : length places ≡ length x.places = ap length at.changed ∙ length-set x.places i at.is in
      let depth : nat_lt 0 at.is.depth ≡ nat_lt 0 at.was.depth = ap (λ (p : MutexPlace). nat_lt 0 p.depth) at.does ∙ stays in
      record {
        held = is.held;
        awaits = subst (λ n. AwaitsOneOf n x.wait) (sym long) is.awaits;
        staxes = is.staxes;
        places = record {
          same = refl;
          words = is.places.words ∙ ap (λ n. 1 + n) (sym long);
          all = long ∙ is.places.all;
          its = record {
            number = its.number;
            thread = its.thread;
            one = its.one;
            placed = λ j p there. each-set (λ j (p : MutexPlace). p.mutex.0 ≡ j) x.places i at.is its.placed (ap (λ (p : MutexPlace). p.mutex.0) at.does ∙ its.placed i at.was at.there) j p (sym (ap (λ l. slice_get l j) at.changed) ∙ there);
            numbers = λ j p there. each-set (λ j (p : MutexPlace). p.number ≡ its.number) x.places i at.is its.numbers (ap (λ (p : MutexPlace). p.number) at.does ∙ its.numbers i at.was at.there) j p (sym (ap (λ l. slice_get l j) at.changed) ∙ there);
            owners = λ j p there. each-set (λ j (p : MutexPlace). owns (mutex_of j its.thread).held.role ≡ nat_lt 0 p.depth) x.places i at.is its.owners (its.owners i at.was at.there ∙ sym depth) j p (sym (ap (λ l. slice_get l j) at.changed) ∙ there);
          };
        };
      }

pub one_deeper : (d : ℕ) → 0 < d → nat_lt 0 (d + 1) ≡ nat_lt 0 d
one_deeper d some = grind (arith, nat_tests)

pub one_less : (d : ℕ) → 0 < d → d ≢ 1 → nat_lt 0 (less d) ≡ nat_lt 0 d
one_less d some more = let two : 1 < d = omega (arith, some, more) in grind (arith, nat_tests)
