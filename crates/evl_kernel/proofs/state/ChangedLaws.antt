-- Which threads are noted after each change of the set, and what is known of the ranks that the scheduler was given.
use Rattle.std.proofs.Common.{◌≡◌, ◌≢◌, ◌<◌, ◌+◌, ◌*◌, ◌/◌, ◌%◌, ◌==◌, ◌||◌, ◌&&◌, ◌⊎◌, inl, inr, not, ℕ, zero, suc, nat_lt, Bool, true, false, List, [], ◌∷◌, length, map, Option, Some, None, is_some, option_map, Result, Ok, Err, OnOk, OnErr, slice_index_or, slice_set, refl, sym, ap, ◌∙◌, subst, arith}
use Rattle.std.specs.Option.{option_map_or}
use Rattle.std.proofs.lemmas.Bool.{false≢true, eqb-false, eqb-true, ne_eqb, lt-ltb}
use Rattle.std.proofs.lemmas.List.{get_or-set_same, get_or-set_other, set-get_or}
use Rattle.std.proofs.Math.Bool.{or-true, or-false}
use Rattle.evl_base.proofs.Plain.{eqb-same}
use Rattle.evl_base.specs.Limits.{thread_limit}
use Rattle.evl_bitmap.specs.NumberSet.{NumberSet, contains, insert, least, remove}
use Rattle.evl_bitmap.proofs.NumberSetLaws.{contains-insert, contains-remove}
use Rattle.evl_base.specs.declared.policy.Policy.{Policy}
use Rattle.evl_base.specs.declared.refusal.Refusal.{Refusal}
use Rattle.evl_base.specs.declared.stage.Stage.{Stage}
use Rattle.evl_sched.specs.Calls as calls
use Rattle.evl_sched.specs.Ranks as ranks
use Rattle.evl_sched.specs.Ranks.{Ranked, given_to}
use Rattle.evl_sched.specs.Policies.{base_rank}
use Rattle.evl_sched.specs.declared.seat.Seat.{Seat}
use Rattle.evl_sched.specs.Threads.{Sched, base_of, is_attached, new_policy, new_seat, seat_at}
use Rattle.evl_mutex.specs.Changes.{ChangesAreNoted}
use Rattle.evl_mutex.specs.Owners as owners
use Rattle.evl_mutex.specs.Owners.{Owners}
use Rattle.evl_kernel.specs.state.ChangedThreads.{AreGivenBut, is_noted, of_word}
use Rattle.evl_kernel.specs.state.Records.{RanksAreKept}
use Rattle.evl_mutex.proofs.LendingLaws.{same_or_not}
use Rattle.evl_mutex.proofs.ListLaws.{count-map, map-set}

-- what is noted in a word after a change of it, and in the others
within-word : (words : List NumberSet) (w n : ℕ) → least (of_word words w) ≡ Some n → w < length words
within-word [] w n e = cc
within-word (s ∷ ss) zero n e = omega arith
within-word (s ∷ ss) (suc w) n e = omega (arith, within-word ss w n e)

pub word-left : (words : List NumberSet) (w n : ℕ) → least (of_word words w) ≡ Some n → of_word (slice_set words w (remove (of_word words w) n)) w ≡ remove (of_word words w) n
word-left words w n e = get_or-set_same words w (remove (of_word words w) n) [] (within-word words w n e)

pub word-empty : (words : List NumberSet) (w : ℕ) → of_word words w ≡ [] → slice_set words w [] ≡ words
word-empty words w e = ap (λ (s : NumberSet). slice_set words w s) (sym e) ∙ set-get_or words w []

-- words that are seen as sets
pub words-set : {X : Type 0} (f : X → NumberSet) (xs : List X) (w : ℕ) (x : X) → map f (slice_set xs w x) ≡ slice_set (map f xs) w (f x)
words-set f xs w x = map-set f xs w x

pub words-within : {X : Type 0} (f : X → NumberSet) (xs : List X) (w : ℕ) → length xs ≡ 8 → w < 8 → w < length (map f xs)
words-within f xs w many l = omega (arith, count-map f xs, many, l)

-- a thread of a board is noted where it is added
pub noted-inserted : (words : List NumberSet) (thread t : ℕ) → thread / 32 < length words
    → is_noted (slice_set words (thread / 32) (insert (of_word words (thread / 32)) (thread % 32))) t ≡ (is_noted words t || (t == thread))
noted-inserted words thread t there = by (same_or_not (t / 32) (thread / 32))
  where
    turned : (a b c d : Bool) → a ≡ d → ((a || b) || c) ≡ ((b || c) || d)
    turned true b c d e = sym (ap (λ x. (b || c) || x) (sym e) ∙ or-true (b || c))
    turned false b c d e = sym (ap (λ x. (b || c) || x) (sym e) ∙ or-false (b || c))

    added : NumberSet
    added = insert (of_word words (thread / 32)) (thread % 32)

    by_test : t / 32 ≡ thread / 32 → (b : Bool) → (thread % 32 == t % 32) ≡ b → b ≡ (t == thread)
    by_test here true e =
        let same_one : t ≡ thread = omega (arith, here, eqb-true (thread % 32) (t % 32) e) in
        sym (ap (λ (k : ℕ). k == thread) same_one ∙ eqb-same thread)
    by_test here false e = sym (ne_eqb t thread (λ at. eqb-false (thread % 32) (t % 32) e (ap (λ (k : ℕ). k % 32) (sym at))))

    by : (t / 32 ≡ thread / 32) ⊎ (t / 32 ≢ thread / 32) → is_noted (slice_set words (thread / 32) added) t ≡ (is_noted words t || (t == thread))
    by (inl here) =
        let now : of_word (slice_set words (thread / 32) added) (t / 32) ≡ added = ap (of_word (slice_set words (thread / 32) added)) here ∙ get_or-set_same words (thread / 32) added [] there in
        ap (λ (s : NumberSet). contains s (t % 32) || not (nat_lt t thread_limit)) now
        ∙ ap (λ b. b || not (nat_lt t thread_limit)) (contains-insert (of_word words (thread / 32)) (thread % 32) (t % 32))
        ∙ turned (thread % 32 == t % 32) (contains (of_word words (thread / 32)) (t % 32)) (not (nat_lt t thread_limit)) (t == thread) (by_test here (thread % 32 == t % 32) refl)
        ∙ ap (λ (w : ℕ). (contains (of_word words w) (t % 32) || not (nat_lt t thread_limit)) || (t == thread)) (sym here)
    by (inr ne) =
        ap (λ (s : NumberSet). contains s (t % 32) || not (nat_lt t thread_limit)) (get_or-set_other words (thread / 32) (t / 32) added [] ne)
        ∙ sym (ap (λ b. is_noted words t || b) (ne_eqb t thread (λ at. ne (ap (λ (k : ℕ). k / 32) at))) ∙ or-false (is_noted words t))

-- where one that was noted is given its rank, it need be noted no more
pub given-more : (words : List NumberSet) (w n : ℕ) (o : Owners) (r p : Ranked) → least (of_word words w) ≡ Some n → n < 32 → AreGivenBut (is_noted words) r o → p.sched ≡ r.sched
    → (is_attached r.sched (32 * w + n) ≡ true → ranks.rank_of p (32 * w + n) ≡ owners.rank_of o (32 * w + n))
    → ((t : ℕ) → t ≢ 32 * w + n → given_to p t ≡ given_to r t) → AreGivenBut (is_noted (slice_set words w (remove (of_word words w) n))) p o
given-more words w n o r p first low h kept given others t free attached = by (same_or_not t (32 * w + n)) (ap (λ (s : Sched). is_attached s t) (sym kept) ∙ attached)
  where
    left : NumberSet
    left = remove (of_word words w) n

    beside : (a b c : Bool) → a ≡ false → ((not a && b) || c) ≡ (b || c)
    beside true b c e = absurd (false≢true (sym e))
    beside false b c e = refl

    before : t ≢ 32 * w + n → (t / 32 ≡ w) ⊎ (t / 32 ≢ w) → is_noted words t ≡ is_noted (slice_set words w left) t
    before other (inl here) =
        let place : n ≢ t % 32 = λ e. other (omega (arith, here, e)) in
        ap (λ (k : ℕ). contains (of_word words k) (t % 32) || not (nat_lt t thread_limit)) here
        ∙ sym (beside (n == t % 32) (contains (of_word words w) (t % 32)) (not (nat_lt t thread_limit)) (ne_eqb n (t % 32) place))
        ∙ ap (λ b. b || not (nat_lt t thread_limit)) (sym (contains-remove (of_word words w) n (t % 32)))
        ∙ ap (λ (s : NumberSet). contains s (t % 32) || not (nat_lt t thread_limit)) (sym (word-left words w n first))
        ∙ ap (λ (k : ℕ). contains (of_word (slice_set words w left) k) (t % 32) || not (nat_lt t thread_limit)) (sym here)
    before other (inr ne) = ap (λ (s : NumberSet). contains s (t % 32) || not (nat_lt t thread_limit)) (sym (get_or-set_other words w (t / 32) left [] ne))

    by : (t ≡ 32 * w + n) ⊎ (t ≢ 32 * w + n) → is_attached r.sched t ≡ true → ranks.rank_of p t ≡ owners.rank_of o t
    by (inl here) attached = subst (λ (m : ℕ). is_attached r.sched m ≡ true → ranks.rank_of p m ≡ owners.rank_of o m) (sym here) given attached
    by (inr other) attached =
        (λ i. option_map_or (λ rank. rank) (others t other i) (base_of (kept i) t)) ∙ h t (before other (same_or_not (t / 32) w) ∙ free) attached

-- a thread whose word has none isn't noted
pub unnoted : (words : List NumberSet) (t : ℕ) → t < thread_limit → of_word words (t / 32) ≡ [] → is_noted words t ≡ false
unnoted words t low none = ap (λ (s : NumberSet). contains s (t % 32) || not (nat_lt t thread_limit)) none ∙ ap not (lt-ltb t thread_limit low)

-- where the recorded owners noted whose rank may have changed, the others are given their ranks still
pub given-beside : {n : ℕ} (o p : Owners) (r : Ranked) (was now : ℕ → Bool) → RanksAreKept n o r → ChangesAreNoted was now (owners.rank_of o) (owners.rank_of p) → AreGivenBut now r p
given-beside o p r was now kept noted t free attached = kept.given t attached ∙ sym (noted.same t free)

-- where one thread's seat changes, the others are given their ranks still
pub given-apart : {n : ℕ} (o : Owners) (q p : Ranked) (thread : ℕ) (seat : Option Seat) → RanksAreKept n o q → p.sched.seats ≡ slice_set q.sched.seats thread seat
    → ((t : ℕ) → t ≢ thread → given_to p t ≡ given_to q t) → (t : ℕ) → t ≢ thread → is_attached p.sched t ≡ true → ranks.rank_of p t ≡ owners.rank_of o t
given-apart o q p thread seat kept seats given t other attached =
    let same : seat_at p.sched t ≡ seat_at q.sched t = ap (λ (seats : List (Option Seat)). slice_index_or seats t None) seats ∙ get_or-set_other q.sched.seats thread t seat None other in
    let bases : base_of p.sched t ≡ base_of q.sched t = ap (λ (seat : Option Seat). option_map_or (λ seat. base_rank seat.policy) seat 0) same in
    (λ i. option_map_or (λ rank. rank) (given t other i) (bases i)) ∙ kept.given t (ap is_some (sym same) ∙ attached)

-- so they are where the recorded owners get one thread's base rank, which is noted
pub given-told : (o p : Owners) (r : Ranked) (thread : ℕ) (was noting now : ℕ → Bool) → ((t : ℕ) → noting t ≡ (was t || (t == thread)))
    → ((t : ℕ) → t ≢ thread → is_attached r.sched t ≡ true → ranks.rank_of r t ≡ owners.rank_of o t)
    → ChangesAreNoted noting now (owners.rank_of o) (owners.rank_of p) → AreGivenBut now r p
given-told o p r thread was noting now one given noted t free attached = given t other attached ∙ sym (noted.same t free)
  where
    there : t ≡ thread → (t == thread) ≡ true
    there e = by (t == thread) refl
      where
        by : (b : Bool) → (t == thread) ≡ b → b ≡ true
        by true is = refl
        by false is = absurd (eqb-false t thread is e)

    other : t ≢ thread
    other e = absurd (false≢true (sym free ∙ noted.more t (one t ∙ ap (λ b. was t || b) (there e) ∙ or-true (was t))))

-- the calls that change one thread's seat
module _ {n : ℕ} (o : Owners) (q p : Ranked) (thread : ℕ) (kept : RanksAreKept n o q) where
  abbrev OthersAreGiven : Ranked → Type 0
  OthersAreGiven r = (t : ℕ) → t ≢ thread → is_attached r.sched t ≡ true → ranks.rank_of r t ≡ owners.rank_of o t

  pub given-attached : (policy : Policy) (stage : Stage) → p ≡ calls.attach q thread policy stage → OthersAreGiven p
  given-attached policy stage is =
      let now = calls.attach q thread policy stage in
      subst OthersAreGiven (sym is) (given-apart o q now thread (Some (new_seat policy stage)) kept refl (λ t other. get_or-set_other q.given thread t None None other))

  pub given-policy_set : (policy : Policy) → p ≡ calls.set_policy q thread policy → OthersAreGiven p
  given-policy_set policy is =
      let now = calls.set_policy q thread policy in
      subst OthersAreGiven (sym is) (given-apart o q now thread (option_map (new_policy policy) (seat_at q.sched thread)) kept refl (λ t other. refl))

  -- also where the call may be refused
  pub given-detached : (result : Result (Unit {0}) Refusal) → OnOk result (p ≡ calls.detach q thread) → OnErr result (p ≡ q) → OthersAreGiven p
  given-detached (Ok u) done same = subst OthersAreGiven (sym done) (given-apart o q (calls.detach q thread) thread None kept refl (λ t other. refl))
  given-detached (Err refusal) done same = subst OthersAreGiven (sym same) (λ t other attached. kept.given t attached)
