-- The steps that a caller may make on a mutex: by itself, and once it has taken the kernel.
use Rattle.std.proofs.Common.{◌≡◌, ◌≢◌, ◌<◌, ◌==◌, ℕ, zero, suc, not, nat_lt, if◌then◌else◌, Bool, true, false, true≢false, List, [], ◌∷◌, length, map, Option, Some, None, is_some, IsSomeAnd, slice_get, eqb-true, eq-eqb, ne_eqb, refl, sym, ap, ◌∙◌, subst, arith}
use Rattle.std.specs.List.{range_with_len}
use Rattle.std.specs.Option.{option_map, option_map_or}
use Rattle.std.proofs.lemmas.List.{length-map}
use Rattle.std.proofs.lemmas.List.FromFn.{length-range_with_len}
use Rattle.std.proofs.lemmas.Option.{none-some, same_Some, slice_get-map, slice_get_within}
use Rattle.atomic_table.specs.Seated.{TableId}
use Rattle.evl_base.specs.Board.{board_fits}
use Rattle.evl_base.specs.declared.board.Board.{Board}
use Rattle.evl_base.specs.declared.mutex_kind.MutexKind.{MutexKind}
use Rattle.evl_base.specs.declared.mutex_kind.MutexKind.TheVariants.{Normal, Recursive, Ceiling}
use Rattle.evl_base.specs.declared.numbers.MutexId.{MutexId}
use Rattle.evl_base.specs.declared.numbers.ThreadId.{ThreadId}
use Rattle.evl_base.specs.declared.refusal.Refusal.TheVariants.{Busy, Deadlock, Limit, Unknown, WrongStage}
use Rattle.evl_base.specs.declared.stage.Stage.{Stage}
use Rattle.evl_base.specs.declared.stage.Stage.TheVariants.{Inband, Oob}
use Rattle.evl_sched.specs.Threads.{is_oob}
use Rattle.evl_kernel.specs.state.KernelViews.{KernelView}
use Rattle.evl_mutex.specs.Mutexes.{is_open_to}
use Rattle.evl_words.specs.MutexCalls.{MutexSeatState}
use Rattle.evl_words.specs.MutexWorld.{MutexView, owns}
use Rattle.evl_words.specs.declared.mutex.MutexPass.{MutexPass}
use Rattle.evl_words.specs.declared.mutex.place.MutexPlace.{MutexPlace}
use Rattle.evl_machine.specs.declared.unfinished.Unfinished.{Unfinished}
use Rattle.evl_core.specs.declared.views.Account.{Account}
use Rattle.evl_core.specs.accounts.Accounts.{IsAccount, saw, threads_of}
use Rattle.evl_machine.specs.callers.Actors.{ActorState, SeatedActor, Suits, acting}
use Rattle.evl_machine.specs.callers.Callers.{IsResting, caller_by, machine_by}
use Rattle.evl_machine.specs.calls.Calls.{AreOwnedAsRecorded, stage_of_caller, wait_of_caller}
use Rattle.evl_core.specs.rule.Ceilings.{has_ceiling}
use Rattle.evl_machine.specs.callers.Handles.{CallerState}
use Rattle.evl_core.specs.accounts.Seats.{account_of}
use Rattle.evl_core.specs.words.Homes.{mutex_home, word_home, word_homes}
use Rattle.evl_machine.specs.callers.InHand.{HasOpened}
use Rattle.evl_machine.specs.callers.JustTaken.{HasJustTaken}
use Rattle.evl_core.specs.rule.Known.{ComesFrom, CoreHand, first_of, mutex_count, seen, lock_in}
use Rattle.evl_machine.specs.mutex_locks.Locking.{HaveSeats}
use Rattle.evl_machine.specs.mutex_locks.MutexLocks.{kind_of, lock_refusal, own_lock_refusal, spend_refusal}
use Rattle.evl_core.specs.words.MutexPlaces.{depth_in, place_passes}
use Rattle.evl_core.specs.words.MutexSeats.{depth_at, is_owner, is_recursive, mutex_passes, mutex_refusal, owner_refusal}
use Rattle.evl_core.specs.words.MutexTokens.{part_of, seat_at}
use Rattle.evl_core.specs.words.Noted.{HasTaken}
use Rattle.evl_machine.specs.calls.Visits.{actor_of}
use Rattle.evl_machine.proofs.mutex_locks.SeatsAt.{depth_there, long_as}
use Rattle.evl_machine.proofs.callers.Visits.{have_seats, same_actor, suits_opened}

-- what is at a place
at_place : {S : Type 0} (xs : List S) (i : ℕ) → i < length xs → (x : S) × (slice_get xs i ≡ Some x)
at_place [] i less = absurd (omega (arith, less))
at_place (x ∷ xs) zero less = (x, refl)
at_place (x ∷ xs) (suc i) less = at_place xs i (omega (arith, less))

-- an owner's refusal is none
unrefused : (wait : Bool) (k : MutexKind) (oob : Bool) (depth : ℕ) → (if wait then Some Busy else (if oob then owner_refusal k depth else Some WrongStage)) ≡ None → owner_refusal k depth ≡ None
unrefused true k oob depth none = absurd (none-some Busy (sym none))
unrefused false k true depth none = none
unrefused false k false depth none = absurd (none-some WrongStage (sym none))

refused_unknown : (wait : Bool) → (if wait then Some Busy else Some Unknown) ≡ None → ⊥
refused_unknown true none = none-some Busy (sym none)
refused_unknown false none = none-some Unknown (sym none)

module _ (kinds : List MutexKind) (seats : List MutexSeatState) (i : ℕ) (wait : Option Unfinished) (stage : Stage) (long : length kinds ≡ length seats) (none : lock_refusal (slice_get kinds i) wait stage (depth_at seats i) ≡ None) where
  -- the mutex is there, and refuses no owner
  there : (kind : MutexKind) × (seat : MutexSeatState) × (slice_get kinds i ≡ Some kind) × (slice_get seats i ≡ Some seat) × (owner_refusal kind seat.depth ≡ None)
  there = by (slice_get kinds i) refl none
    where
      by : (o : Option MutexKind) → slice_get kinds i ≡ o → lock_refusal o wait stage (depth_at seats i) ≡ None → (kind : MutexKind) × (seat : MutexSeatState) × (slice_get kinds i ≡ Some kind) × (slice_get seats i ≡ Some seat) × (owner_refusal kind seat.depth ≡ None)
      by None is none = absurd (refused_unknown (is_some wait) none)
      by (Some k) is none =
          let s = at_place seats i (let within = slice_get_within kinds i k is in omega (arith, within, long)) in
          (k, s.0, is, s.1, subst (λ d. owner_refusal k d ≡ None) (ap (λ (o : Option MutexSeatState). option_map_or mutex_passes o 0) s.1) (unrefused (is_some wait) k (is_oob stage) (depth_at seats i) none))

  pub may_lock : mutex_refusal kinds seats i ≡ None
  may_lock =
      let t = there in
      (λ j. option_map_or (λ (kind : MutexKind). option_map_or (λ (seat : MutexSeatState). owner_refusal kind seat.depth) (t.3 j) (Some Unknown)) (t.2 j) (Some Unknown)) ∙ t.4

  pub held_never : has_ceiling (slice_get kinds i) ≡ true → depth_at seats i ≡ 0
  held_never ceiling =
      let t = there in
      ap (λ (o : Option MutexSeatState). option_map_or mutex_passes o 0) t.3 ∙ by t.0 (sym (ap has_ceiling t.2) ∙ ceiling) t.4
    where
      free : (d : ℕ) (b : Bool) → (d == 0) ≡ b → (if b then None else Some Deadlock) ≡ None → d ≡ 0
      free d true is none = eqb-true d 0 is
      free d false is none = absurd (none-some Deadlock (sym none))

      by : {d : ℕ} (k : MutexKind) → has_ceiling (Some k) ≡ true → owner_refusal k d ≡ None → d ≡ 0
      by Normal is none = absurd (true≢false (sym is))
      by Recursive is none = absurd (true≢false (sym is))
      by {d} (Ceiling prio) is none = free d (d == 0) refl none

-- there are as many seats as homes
as_many : (table : TableId) (threads count : ℕ) (seats : List MutexSeatState) → map mutex_home seats ≡ word_homes table threads count → length seats ≡ count
as_many table threads count seats homes = sym (length-map seats mutex_home) ∙ ap length homes ∙ length-map (range_with_len 0 count) (word_home table threads) ∙ length-range_with_len 0 count

-- whom nothing refuses to lock waits for nothing, out-of-band
may_now : (kind : Option MutexKind) (wait : Option Unfinished) (stage : Stage) (depth : ℕ) → lock_refusal kind wait stage depth ≡ None → (wait ≡ None) × (stage ≡ Oob)
may_now kind None stage depth none = (refl, at kind stage none)
  where
    at : (kind : Option MutexKind) (stage : Stage) → option_map_or (λ k. if is_oob stage then owner_refusal k depth else Some WrongStage) kind (Some Unknown) ≡ None → stage ≡ Oob
    at None stage none = absurd (none-some Unknown (sym none))
    at (Some k) Oob none = refl
    at (Some k) Inband none = absurd (none-some WrongStage (sym none))
may_now kind (Some w) stage depth none = absurd (none-some Busy (sym none))

-- who may spend a pass waits for nothing
pub spends_idle : (wait : Option Unfinished) (seats : List MutexSeatState) (pass : MutexPass) → spend_refusal wait seats pass ≡ None → wait ≡ None
spends_idle None seats pass none = refl
spends_idle (Some w) seats pass none = absurd (none-some Busy (sym none))

-- a place that isn't held
pub place_free : (ps : List MutexPlace) (i : ℕ) → i < length ps → depth_in ps i ≡ 0 → IsSomeAnd (slice_get ps i) (λ p. p.depth ≡ 0)
place_free ps i less free =
    let p = at_place ps i less in
    subst (λ (o : Option MutexPlace). IsSomeAnd o (λ p. p.depth ≡ 0)) (sym p.1) (sym (ap (λ (o : Option MutexPlace). option_map_or place_passes o 0) p.1) ∙ free)

-- an owner that isn't refused doesn't have the mutex as often as it may
not_full : (k : MutexKind) (d : ℕ) → d ≢ 0 → owner_refusal k d ≡ None → d ≢ 255
not_full k d some none full = by (d == 0) (not (is_recursive k)) (d == 255) (ne_eqb d 0 some) (eq-eqb d 255 full) none
  where
    by : (free other most : Bool) → free ≡ false → most ≡ true → (if free then None else if other then Some Deadlock else if most then Some Limit else None) ≡ None → ⊥
    by true other most is full none = true≢false is
    by false true most is full none = none-some Deadlock (sym none)
    by false false true is full none = none-some Limit (sym none)
    by false false false is full none = true≢false (sym full)

module _ {C : Type 0} where
  pub places_there : (x o : SeatedActor C) (old : CallerState C) (i : ℕ) → caller_by x ≡ old → o.places ≡ x.places → i < length old.mutexes → i < length o.places
  places_there x o old i was same less =
      let long : length old.mutexes ≡ length o.places = ap (λ (s : CallerState C). length s.mutexes) (sym was) ∙ long_as x.table x.me.0 x.places ∙ ap length (sym same) in
      omega (arith, less, long)

  pub opened_seats : {x o : SeatedActor C} {k : KernelView C} → HasOpened x o k → (table : TableId) (count : ℕ) (key : KernelView C)
      → map mutex_home (acting x).mutexes ≡ word_homes table (threads_of key.history) count → first_of x.me.0 ≡ key → HaveSeats (threads_of k.history) (acting o).mutexes
  opened_seats {x} {o} {k} opened table count key homes from =
      let threads : threads_of key.history ≡ threads_of k.history = sym (ap (λ (b : Board). b.threads) (opened.opens.comes.board ∙ ap (λ (f : KernelView C). f.history.board) from)) in
      subst (λ (z : ℕ × ActorState). HaveSeats z.0 z.1.mutexes) (λ i. (threads i, sym opened.same.1 i)) (have_seats table (threads_of key.history) count (acting x).mutexes homes)

  module _ {x o : SeatedActor C} {k : KernelView C} (opened : HasOpened x o k) where
    -- the account that a take found is its thread's
    own_thread : (account_of (seen x.me)).thread ≡ o.thread.0
    own_thread = sym (ap (λ (y : Account). y.thread) opened.opens.account) ∙ opened.opens.held.own ∙ ap (λ (t : ThreadId). t.0) (sym opened.thread)

    -- what an actor knows just after its take
    pub just_took : Suits (acting x) (account_of (seen x.me)).seen → {key : KernelView C} → first_of x.me.0 ≡ key → board_fits key.history.board ≡ true → HasJustTaken o k
    just_took suits from fits =
        let opens = opened.opens in
        let after : IsAccount (saw k.history k.room (account_of (seen x.me))) = subst IsAccount opens.account opens.held.continues.before in
        record {
          taken = subst (λ n. HasTaken n k.history o.me.0) own_thread opened.holder;
          comes = subst (λ (f : KernelView C). ComesFrom f k) (sym opened.same.2) opens.comes;
          member = subst (λ n. n < threads_of k.history) own_thread after.member;
          legal = opens.held.continues.legal;
          fits = ap board_fits (opens.comes.board ∙ ap (λ (f : KernelView C). f.history.board) from) ∙ fits;
          suits = suits_opened opened suits;
        }

    -- of a mutex that its seats hold no other owner is recorded
    pub owned_seats : AreOwnedAsRecorded (acting o).thread.0 (acting o).mutexes k.history
    owned_seats i s m there owner at = by (slice_get o.places i) refl (sym there ∙ slice_get-map (seat_at o.table o.me.0) o.places i)
      where
        by : (p : Option MutexPlace) → slice_get o.places i ≡ p → Some s ≡ option_map (seat_at o.table o.me.0) p → is_open_to o.thread.0 m ≡ true
        by None is seat = absurd (none-some s (sym seat))
        by (Some p) is seat =
            let own = opened.own in
            let depth : nat_lt 0 p.depth ≡ true = ap is_owner (same_Some (seat_at o.table o.me.0 p) s (sym seat)) ∙ owner in
            let within = slice_get_within o.places i p is in
            let less : i < mutex_count (first_of o.me.0) = subst (λ n. i < n) own.places.all within in
            let mine : owns (part_of o.me.0 i).held.role ≡ true = ap (λ (x : MutexView). owns x.held.role) (ap (λ (h : CoreHand C). part_of h i) own.places.its.one) ∙ own.places.its.owners i p is ∙ depth in
            subst (λ n. is_open_to n m ≡ true) own_thread (opened.holder.owned i less mine m at)

  -- a caller's own stage and wait are its actor's
  pub opened_actor : (x o : SeatedActor C) (old : CallerState C) → caller_by x ≡ old → IsResting x → acting o ≡ acting x → acting o ≡ actor_of old
  opened_actor x o old was rests same = same ∙ sym (ap actor_of (sym was) ∙ same_actor (machine_by x) (account_of (seen x.me)) (lock_in x.me.0) (acting x) rests.0.own rests.0.account rests.1)

  pub opened_wait : (x o : SeatedActor C) (old : CallerState C) (wait : Option Unfinished) → caller_by x ≡ old → IsResting x → acting o ≡ acting x → wait_of_caller old ≡ wait → o.wait ≡ wait
  opened_wait x o old wait was rests same is = ap (λ (a : ActorState). a.wait) (opened_actor x o old was rests same) ∙ is

  pub own_wait : (x : SeatedActor C) (old : CallerState C) (wait : Option Unfinished) → caller_by x ≡ old → IsResting x → x.wait ≡ wait → wait_of_caller old ≡ wait
  own_wait x old wait was rests is = ap (λ (a : ActorState). a.wait) (sym (opened_actor x x old was rests refl)) ∙ is

  -- who may lock a mutex waits for nothing, out-of-band
  pub opened_may : (x o : SeatedActor C) (old : CallerState C) (m : MutexId) → caller_by x ≡ old → IsResting x → acting o ≡ acting x → own_lock_refusal old m ≡ None → (o.wait ≡ None) × (o.stage ≡ Oob)
  opened_may x o old m was rests same none =
      let is = opened_actor x o old was rests same in
      let may = may_now (kind_of old m) (wait_of_caller old) (stage_of_caller old) (depth_at old.mutexes m.0) none in
      (ap (λ (a : ActorState). a.wait) is ∙ may.0, ap (λ (a : ActorState). a.stage) is ∙ may.1)

  module _ (x o : SeatedActor C) (old : CallerState C) (m : MutexId) (was : caller_by x ≡ old) where
    abbrev kinds_at : List MutexKind
    kinds_at = (first_of x.me.0).history.board.mutexes.items

    long_enough : (table : TableId) (key : KernelView C) (kinds : List MutexKind) → map mutex_home (acting x).mutexes ≡ word_homes table (threads_of key.history) (length kinds) → first_of x.me.0 ≡ key → kinds ≡ key.history.board.mutexes.items → length kinds_at ≡ length (acting x).mutexes
    long_enough table key kinds homes from are = ap (λ (f : KernelView C). length f.history.board.mutexes.items) from ∙ ap length (sym are) ∙ sym (as_many table (threads_of key.history) (length kinds) (acting x).mutexes homes)

    pub lock_open : acting o ≡ acting x → (table : TableId) (key : KernelView C) (kinds : List MutexKind) → map mutex_home (acting x).mutexes ≡ word_homes table (threads_of key.history) (length kinds) → first_of x.me.0 ≡ key → kinds ≡ key.history.board.mutexes.items
        → own_lock_refusal old m ≡ None → mutex_refusal key.history.board.mutexes.items (acting o).mutexes m.0 ≡ None
    lock_open same table key kinds homes from are none =
        subst (λ (z : KernelView C × ActorState). mutex_refusal z.0.history.board.mutexes.items z.1.mutexes m.0 ≡ None) (λ i. (from i, sym same i))
        (may_lock kinds_at (acting x).mutexes m.0 _ _ (long_enough table key kinds homes from are) (ap (λ (s : CallerState C). own_lock_refusal s m) was ∙ none))

    -- a mutex that may be locked and isn't had
    pub free_there : (table : TableId) (key : KernelView C) (kinds : List MutexKind) → map mutex_home (acting x).mutexes ≡ word_homes table (threads_of key.history) (length kinds) → first_of x.me.0 ≡ key → kinds ≡ key.history.board.mutexes.items
        → own_lock_refusal old m ≡ None → depth_at old.mutexes m.0 ≡ 0 → IsSomeAnd (slice_get x.places m.0) (λ p. p.depth ≡ 0)
    free_there table key kinds homes from are none free =
        let long = long_enough table key kinds homes from are in
        let allowed = ap (λ (s : CallerState C). own_lock_refusal s m) was ∙ none in
        let t = there kinds_at (acting x).mutexes m.0 _ _ long allowed in
        let within = slice_get_within (acting x).mutexes m.0 t.1 t.3 in
        let places = long_as x.table x.me.0 x.places in
        place_free x.places m.0 (omega (arith, within, places)) (sym (depth_there x.table x.me.0 x.places m.0) ∙ ap (λ (s : CallerState C). depth_at s.mutexes m.0) was ∙ free)

    pub begins_there : (table : TableId) (key : KernelView C) (kinds : List MutexKind) → map mutex_home (acting x).mutexes ≡ word_homes table (threads_of key.history) (length kinds) → first_of x.me.0 ≡ key → kinds ≡ key.history.board.mutexes.items
        → own_lock_refusal old m ≡ None → m.0 < length old.mutexes
    begins_there table key kinds homes from are none =
        let t = there kinds_at (acting x).mutexes m.0 _ _ (long_enough table key kinds homes from are) (ap (λ (s : CallerState C). own_lock_refusal s m) was ∙ none) in
        let within = slice_get_within (acting x).mutexes m.0 t.1 t.3 in
        let same = ap (λ (s : CallerState C). length s.mutexes) was in
        omega (arith, within, same)

    -- one that may be locked and is had isn't had 255 times
    pub nests_there : (table : TableId) (key : KernelView C) (kinds : List MutexKind) → map mutex_home (acting x).mutexes ≡ word_homes table (threads_of key.history) (length kinds) → first_of x.me.0 ≡ key → kinds ≡ key.history.board.mutexes.items
        → own_lock_refusal old m ≡ None → 0 < depth_at old.mutexes m.0 → IsSomeAnd (slice_get x.places m.0) (λ p. p.depth ≢ 255)
    nests_there table key kinds homes from are none held =
        let long = long_enough table key kinds homes from are in
        let allowed = ap (λ (s : CallerState C). own_lock_refusal s m) was ∙ none in
        let t = there kinds_at (acting x).mutexes m.0 _ _ long allowed in
        let within = slice_get_within (acting x).mutexes m.0 t.1 t.3 in
        let places = long_as x.table x.me.0 x.places in
        let p = at_place x.places m.0 (omega (arith, within, places)) in
        let depth : depth_at old.mutexes m.0 ≡ p.0.depth = ap (λ (s : CallerState C). depth_at s.mutexes m.0) (sym was) ∙ depth_there x.table x.me.0 x.places m.0 ∙ ap (λ (o : Option MutexPlace). option_map_or place_passes o 0) p.1 in
        let seat : t.1.depth ≡ p.0.depth = sym (ap (λ (o : Option MutexSeatState). option_map_or mutex_passes o 0) t.3) ∙ depth_there x.table x.me.0 x.places m.0 ∙ ap (λ (o : Option MutexPlace). option_map_or place_passes o 0) p.1 in
        subst (λ (o : Option MutexPlace). IsSomeAnd o (λ p. p.depth ≢ 255)) (sym p.1) (not_full t.0 p.0.depth (λ e. absurd (omega (arith, held, depth, e))) (subst (λ d. owner_refusal t.0 d ≡ None) seat t.4))

    pub free_at_ceiling : o.places ≡ x.places → (table : TableId) (key : KernelView C) (kinds : List MutexKind) → map mutex_home (acting x).mutexes ≡ word_homes table (threads_of key.history) (length kinds) → first_of x.me.0 ≡ key → kinds ≡ key.history.board.mutexes.items
        → own_lock_refusal old m ≡ None → has_ceiling (kind_of old m) ≡ true → IsSomeAnd (slice_get o.places m.0) (λ p. p.depth ≡ 0)
    free_at_ceiling same table key kinds homes from are none ceiling =
        let long = long_enough table key kinds homes from are in
        let allowed = ap (λ (s : CallerState C). own_lock_refusal s m) was ∙ none in
        let free = held_never kinds_at (acting x).mutexes m.0 _ _ long allowed (ap (λ (s : CallerState C). has_ceiling (kind_of s m)) was ∙ ceiling) in
        let t = there kinds_at (acting x).mutexes m.0 _ _ long allowed in
        let within = slice_get_within (acting x).mutexes m.0 t.1 t.3 in
        let places = long_as x.table x.me.0 x.places in
        subst (λ (ps : List MutexPlace). IsSomeAnd (slice_get ps m.0) (λ p. p.depth ≡ 0)) (sym same)
        (place_free x.places m.0 (omega (arith, within, places)) (sym (depth_there x.table x.me.0 x.places m.0) ∙ free))
