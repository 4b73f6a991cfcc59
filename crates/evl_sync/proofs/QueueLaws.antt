-- Queues after each change.
use Rattle.std.proofs.Common.{◌≡◌, ℕ, suc, ◌+◌, ◌<◌, ◌≤◌, ◌==◌, nat_lt, eqb, Bool, true, false, not, ◌||◌, cond, List, [], ◌∷◌, ◌++◌, Some, None, length, map, insert, remove, if◌then◌else◌, refl, sym, ap, ◌∙◌, arith}
use Rattle.std.specs.List.{list_any, AllByRecursion, IsDistinct, position, position_or_len}
use Rattle.std.proofs.lemmas.Bool.Decides.{nat_tests}
use Rattle.std.proofs.lemmas.Bool.{false≢true, eqb-true, ltb-false, or_from, or_parts, or_right}
use Rattle.std.proofs.lemmas.Map.Steps.{length-le_from_distinct_below}
use Rattle.std.proofs.lemmas.Map.Keys.{IsDistinct-cons}
use Rattle.evl_base.proofs.Plain.{eqb-same, eqb-swap}
use Rattle.evl_base.specs.Limits.{thread_limit}
use Rattle.evl_sync.specs.Queues.{enqueued_by, dropped_by, stands_in, rest_of, AreRanked, IsKept}

or_swap : (a b c : Bool) → (a || (b || c)) ≡ (b || (a || c))
or_swap true true c = refl
or_swap true false c = refl
or_swap false b c = refl

less : (n m : ℕ) → nat_lt n m ≡ true → n ≤ m
less n m e = grind (arith, nat_tests)

none_twice : IsDistinct eqb []
unfolding IsDistinct
none_twice = tt

module _ {A : Type 0} where
  -- the waiter came, and nobody else
  pub stands-enqueued : (thread rank : A → ℕ) (w : A) (ws : List A) (t : ℕ) → stands_in thread t (enqueued_by rank w ws) ≡ ((thread w == t) || stands_in thread t ws)
  stands-enqueued thread rank w [] t = refl
  stands-enqueued thread rank w (v ∷ vs) t =
      elim (nat_lt (rank v) (rank w)) as (λ b. stands_in thread t (if b then w ∷ v ∷ vs else v ∷ enqueued_by rank w vs) ≡ ((thread w == t) || ((thread v == t) || stands_in thread t vs))) [
        | true ↦ refl
        | false ↦ ap (λ b. (thread v == t) || b) (stands-enqueued thread rank w vs t) ∙ or_swap (thread v == t) (thread w == t) (stands_in thread t vs)
      ]

  pub all-enqueued : (P : A → Type 0) (rank : A → ℕ) (w : A) (ws : List A) → P w → AllByRecursion P ws → AllByRecursion P (enqueued_by rank w ws)
  all-enqueued P rank w [] p h = (p, tt)
  all-enqueued P rank w (v ∷ vs) p h =
      elim (nat_lt (rank v) (rank w)) as (λ b. AllByRecursion P (if b then w ∷ v ∷ vs else v ∷ enqueued_by rank w vs)) [
        | true ↦ (p, h)
        | false ↦ (h.0, all-enqueued P rank w vs p h.1)
      ]

  at_most : (rank : A → ℕ) (n m : ℕ) (ws : List A) → n ≤ m → AllByRecursion (λ v. rank v ≤ n) ws → AllByRecursion (λ v. rank v ≤ m) ws
  at_most rank n m [] l h = tt
  at_most rank n m (w ∷ ws) l h = (omega (arith, l, h.0), at_most rank n m ws l h.1)

  pub ranked-enqueued : (thread rank : A → ℕ) (w : A) (ws : List A) → stands_in thread (thread w) ws ≡ false → AreRanked thread rank ws → AreRanked thread rank (enqueued_by rank w ws)
  ranked-enqueued thread rank w [] e h = (tt, refl, tt)
  ranked-enqueued thread rank w (v ∷ vs) e h =
      elim (nat_lt (rank v) (rank w)) as (λ b. nat_lt (rank v) (rank w) ≡ b → AreRanked thread rank (if b then w ∷ v ∷ vs else v ∷ enqueued_by rank w vs)) [
        | true ↦ λ l. ((less (rank v) (rank w) l, at_most rank (rank v) (rank w) vs (less (rank v) (rank w) l) h.0), e, h)
        | false ↦ λ l. (
          all-enqueued (λ u. rank u ≤ rank v) rank w vs (ltb-false (rank v) (rank w) l) h.0,
          stands-enqueued thread rank w vs (thread v) ∙ or_from (thread w == thread v) (stands_in thread (thread v) vs) (eqb-swap (thread w) (thread v) ∙ (or_parts (thread v == thread w) (stands_in thread (thread w) vs) e).0) h.1,
          ranked-enqueued thread rank w vs ((or_parts (thread v == thread w) (stands_in thread (thread w) vs) e).1) h.2,
        )
      ] refl

  pub kept-enqueued : (thread rank : A → ℕ) (w : A) (ws : List A) → stands_in thread (thread w) ws ≡ false → thread w < thread_limit → IsKept thread rank ws → IsKept thread rank (enqueued_by rank w ws)
  kept-enqueued thread rank w ws e l h = record {
    ranked = ranked-enqueued thread rank w ws e h.ranked;
    few = λ t s. below t (thread w == t) refl (sym (stands-enqueued thread rank w ws t) ∙ s);
  }
    where
      below : (t : ℕ) (b : Bool) → (thread w == t) ≡ b → (b || stands_in thread t ws) ≡ true → t < thread_limit
      below t true at s = omega (arith, eqb-true (thread w) t at, l)
      below t false at s = h.few t s

  -- what is left after some went: nobody came, and the rest is as it was
  pub all-dropped : (P : A → Type 0) (thread : A → ℕ) (t : ℕ) (ws : List A) → AllByRecursion P ws → AllByRecursion P (dropped_by thread t ws)
  all-dropped P thread t [] h = tt
  all-dropped P thread t (w ∷ ws) h =
      elim (thread w == t) as (λ b. AllByRecursion P (cond (not b) (w ∷ dropped_by thread t ws) (dropped_by thread t ws))) [
        | true ↦ all-dropped P thread t ws h.1
        | false ↦ (h.0, all-dropped P thread t ws h.1)
      ]

  pub away-dropped : (thread : A → ℕ) (t : ℕ) (ws : List A) (q : ℕ) → stands_in thread q ws ≡ false → stands_in thread q (dropped_by thread t ws) ≡ false
  away-dropped thread t [] q e = refl
  away-dropped thread t (w ∷ ws) q e =
      elim (thread w == t) as (λ b. stands_in thread q (cond (not b) (w ∷ dropped_by thread t ws) (dropped_by thread t ws)) ≡ false) [
        | true ↦ away-dropped thread t ws q ((or_parts (thread w == q) (stands_in thread q ws) e).1)
        | false ↦ or_from (thread w == q) (stands_in thread q (dropped_by thread t ws)) ((or_parts (thread w == q) (stands_in thread q ws) e).0) (away-dropped thread t ws q ((or_parts (thread w == q) (stands_in thread q ws) e).1))
      ]

  pub ranked-dropped : (thread rank : A → ℕ) (t : ℕ) (ws : List A) → AreRanked thread rank ws → AreRanked thread rank (dropped_by thread t ws)
  ranked-dropped thread rank t [] h = tt
  ranked-dropped thread rank t (w ∷ ws) h =
      elim (thread w == t) as (λ b. AreRanked thread rank (cond (not b) (w ∷ dropped_by thread t ws) (dropped_by thread t ws))) [
        | true ↦ ranked-dropped thread rank t ws h.2
        | false ↦ (all-dropped (λ v. rank v ≤ rank w) thread t ws h.0, away-dropped thread t ws (thread w) h.1, ranked-dropped thread rank t ws h.2)
      ]

  pub came_before : (thread : A → ℕ) (xs ws : List A) (t : ℕ) → (stands_in thread t ws ≡ false → stands_in thread t xs ≡ false) → stands_in thread t xs ≡ true → stands_in thread t ws ≡ true
  came_before thread xs ws t f e = by (stands_in thread t ws) refl
    where
      by : (b : Bool) → stands_in thread t ws ≡ b → b ≡ true
      by true at = refl
      by false at = absurd (false≢true (sym (f at) ∙ e))

  pub kept-dropped : (thread rank : A → ℕ) (t : ℕ) (ws : List A) → IsKept thread rank ws → IsKept thread rank (dropped_by thread t ws)
  kept-dropped thread rank t ws h = record {
    ranked = ranked-dropped thread rank t ws h.ranked;
    few = λ q e. h.few q (came_before thread (dropped_by thread t ws) ws q (away-dropped thread t ws q) e);
  }

  pub kept-rest : (thread rank : A → ℕ) (ws : List A) → IsKept thread rank ws → IsKept thread rank (rest_of ws)
  kept-rest thread rank [] h = h
  kept-rest thread rank (w ∷ ws) h = record { ranked = h.ranked.2; few = λ t e. h.few t (or_right (thread w == t) (stands_in thread t ws) e) }

  abbrev numbers : (A → ℕ) → List A → List ℕ
  numbers thread ws = map thread ws

  apart_numbers : (thread : A → ℕ) (t : ℕ) (ws : List A) → stands_in thread t ws ≡ false → AllByRecursion (λ n. eqb t n ≡ false) (numbers thread ws)
  apart_numbers thread t [] e = tt
  apart_numbers thread t (w ∷ ws) e = (eqb-swap t (thread w) ∙ (or_parts (thread w == t) (stands_in thread t ws) e).0, apart_numbers thread t ws ((or_parts (thread w == t) (stands_in thread t ws) e).1))

  distinct_numbers : (thread rank : A → ℕ) (ws : List A) → AreRanked thread rank ws → IsDistinct eqb (numbers thread ws)
  distinct_numbers thread rank [] h = none_twice
  distinct_numbers thread rank (w ∷ ws) h = IsDistinct-cons eqb (thread w) (numbers thread ws) (apart_numbers thread (thread w) ws h.1) (distinct_numbers thread rank ws h.2)

  stands_number : (thread : A → ℕ) (t : ℕ) (ws : List A) → list_any (eqb t) (numbers thread ws) ≡ stands_in thread t ws
  stands_number thread t [] = refl
  stands_number thread t (w ∷ ws) = ap (λ b. b || list_any (eqb t) (numbers thread ws)) (eqb-swap t (thread w)) ∙ ap (λ b. (thread w == t) || b) (stands_number thread t ws)

  count_numbers : (thread : A → ℕ) (ws : List A) → length (numbers thread ws) ≡ length ws
  count_numbers thread [] = refl
  count_numbers thread (w ∷ ws) = ap suc (count_numbers thread ws)

  -- one of the threads isn't in the queue: there is room for it
  pub has_room : (thread rank : A → ℕ) (t : ℕ) (ws : List A) → IsKept thread rank ws → stands_in thread t ws ≡ false → t < thread_limit → length ws < thread_limit
  has_room thread rank t ws h away below =
      let l : length (t ∷ numbers thread ws) ≤ thread_limit = length-le_from_distinct_below (t ∷ numbers thread ws) thread_limit
      (IsDistinct-cons eqb t (numbers thread ws) (apart_numbers thread t ws away) (distinct_numbers thread rank ws h.ranked)) (λ q e. within q (q == t) refl e) in
      omega (arith, l, count_numbers thread ws)
    where
      within : (q : ℕ) (b : Bool) → (q == t) ≡ b → (b || list_any (eqb q) (numbers thread ws)) ≡ true → q < thread_limit
      within q true at e = omega (arith, eqb-true q t at, below)
      within q false at e = h.few q (sym (stands_number thread q ws) ∙ e)

  -- there are no more than the threads
  pub few_kept : (thread rank : A → ℕ) (ws : List A) → IsKept thread rank ws → length ws ≤ thread_limit
  few_kept thread rank [] h = omega arith
  few_kept thread rank (w ∷ ws) h = omega (arith, has_room thread rank (thread w) ws (kept-rest thread rank (w ∷ ws) h) h.ranked.1 (h.few (thread w) (rw (eqb-same (thread w)) refl)))

  -- where a waiter is put
  pub inserted : (rank : A → ℕ) (w : A) (ws : List A) → insert ws (position_or_len (λ v. nat_lt (rank v) (rank w)) ws) w ≡ enqueued_by rank w ws
  inserted rank w [] = refl
  inserted rank w (v ∷ vs) =
      elim (nat_lt (rank v) (rank w)) as (λ b. insert (v ∷ vs) (cond (not b) (1 + position_or_len (λ v. nat_lt (rank v) (rank w)) vs) 0) w ≡ (if b then w ∷ v ∷ vs else v ∷ enqueued_by rank w vs)) [
        | true ↦ refl
        | false ↦ one_more (position_or_len (λ v. nat_lt (rank v) (rank w)) vs) (inserted rank w vs)
      ]
    where
      by_suc : (n : ℕ) → 1 + n ≡ suc n
      by_suc n = omega arith

      one_more : (n : ℕ) → insert vs n w ≡ enqueued_by rank w vs → insert (v ∷ vs) (1 + n) w ≡ v ∷ enqueued_by rank w vs
      one_more n e = ap (λ k. insert (v ∷ vs) k w) (by_suc n) ∙ ap (λ xs. v ∷ xs) e

  -- after all others, where all ranks are the same
  pub enqueued-last : (w : A) (ws : List A) → enqueued_by (λ v. 0) w ws ≡ ws ++ w ∷ []
  enqueued-last w [] = refl
  enqueued-last w (v ∷ vs) = ap (λ xs. v ∷ xs) (enqueued-last w vs)

  -- the first one leaves
  pub rest-is : (ws : List A) → remove ws 0 ≡ rest_of ws
  rest-is [] = refl
  rest-is (w ∷ ws) = refl

  pub kept_first : (thread rank : A → ℕ) (ws after : List A) → after ≡ remove ws 0 → IsKept thread rank ws → IsKept thread rank after
  kept_first thread rank ws after e h = rw (e ∙ rest-is ws) (kept-rest thread rank ws h)

  -- the first that passes, or after all
  within_all : (p : A → Bool) (ws : List A) → position_or_len p ws ≤ length ws
  within_all p [] = omega arith
  within_all p (w ∷ ws) =
      let l = within_all p ws in
      elim (p w) as (λ b. cond (not b) (1 + position_or_len p ws) 0 ≤ length (w ∷ ws)) [
        | true ↦ omega arith
        | false ↦ omega (arith, l)
      ]

  pub place_found : (p : A → Bool) (ws : List A) (n : ℕ) → Some n ≡ position p ws → n ≡ position_or_len p ws
  place_found p ws n e = by (nat_lt (position_or_len p ws) (length ws)) e
    where
      by : (b : Bool) → Some n ≡ cond b (Some (position_or_len p ws)) None → n ≡ position_or_len p ws
      by true h = cc
      by false h = cc

  pub place_behind : (p : A → Bool) (ws : List A) → None ≡ position p ws → length ws ≡ position_or_len p ws
  place_behind p ws e = by (nat_lt (position_or_len p ws) (length ws)) refl e
    where
      by : (b : Bool) → nat_lt (position_or_len p ws) (length ws) ≡ b → None ≡ cond b (Some (position_or_len p ws)) None → length ws ≡ position_or_len p ws
      by true at h = cc
      by false at h = let l = within_all p ws in let m = ltb-false (position_or_len p ws) (length ws) at in omega (arith, l, m)
