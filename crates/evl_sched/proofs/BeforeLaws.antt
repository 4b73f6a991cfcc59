-- A walk to a thread ends at the cell that is linked to it.
use Rattle.std.proofs.Common.{◌≡◌, ◌≢◌, ℕ, suc, zero, ◌<◌, ◌≤◌, ◌==◌, Bool, true, false, ◌||◌, List, [], ◌∷◌, length, Option, Some, None, is_some, refl, sym, ap, ◌∙◌, subst, arith}
use Rattle.std.proofs.lemmas.Bool.{false≢true, eqb-true, ne_eqb}
use Rattle.std.proofs.Math.Bool.{or-true}
use Rattle.evl_base.proofs.Plain.{eqb-same}
use Rattle.evl_bitmap.specs.NumberSet.{NumberSet, contains}
use Rattle.evl_sched.specs.declared.place.Place.{Place}
use Rattle.evl_sched.specs.Queues.{IsChain, IsQueued, cell_of, next_in, reached_place, stands_in}
use Rattle.evl_sched.specs.Ranks.{AreApart}
use Rattle.evl_sched.proofs.QueueLaws.{all_at, all_others, goes_on, is_in, stops}
use Rattle.evl_sched.proofs.QueuedLaws.{lines-few}

abbrev rest : List ℕ → List ℕ
rest [] = []
rest (t ∷ ts) = ts

module _ (links : List (Option ℕ)) (before n : ℕ) (linked : next_in links (cell_of before) ≡ Some n) where
  first_behind : (ts : List ℕ) → IsChain links (cell_of before) ts → is_in ts n ≡ true
  first_behind [] e = let no : Some n ≡ None = sym linked ∙ e in cc
  first_behind (t ∷ ts) e =
      let same : Some n ≡ Some t = sym linked ∙ e.0 in
      let one : t ≡ n = cc in
      ap (λ m. (m == n) || is_in ts n) one ∙ ap (λ b. b || is_in ts n) (eqb-same n)

  in-rest : (ts : List ℕ) → is_in (rest ts) n ≡ true → is_in ts n ≡ true
  in-rest [] e = e
  in-rest (t ∷ ts) e = ap (λ b. (t == n) || b) e ∙ or-true (t == n)

  -- it isn't the first of a chain that the other is in
  follows : (c : ℕ) (ts : List ℕ) → IsChain links c ts → is_in ts before ≡ true → is_in (rest ts) n ≡ true
  follows c [] e there = absurd (false≢true there)
  follows c (u ∷ us) e there = by (λ there. follows (cell_of u) us e.1 there) (u == before) refl there
    where
      by : (is_in us before ≡ true → is_in (rest us) n ≡ true) → (b : Bool) → (u == before) ≡ b → (b || is_in us before) ≡ true → is_in us n ≡ true
      by more true at there = first_behind us (subst (λ m. IsChain links (cell_of m) us) (eqb-true u before at) e.1)
      by more false ne there = in-rest us (more there)

  stays : (steps : ℕ) → reached_place (λ t. t == n) links steps (cell_of before) ≡ cell_of before
  stays zero = refl
  stays (suc steps) = stops (λ t. t == n) links steps (cell_of before) n linked (eqb-same n)

  walk-before : (steps c : ℕ) (ts : List ℕ) → IsChain links c ts → length ts ≤ steps → AreApart ts → is_in ts before ≡ true → reached_place (λ t. t == n) links steps c ≡ cell_of before
  walk-before steps c [] e few once there = absurd (false≢true there)
  walk-before zero c (u ∷ us) e few once there = absurd (omega (arith, few))
  walk-before (suc steps) c (u ∷ us) e few once there =
      let shorter : length us ≤ steps = omega (arith, few) in
      let ne : (u == n) ≡ false = ne_eqb u n (λ same. all_at (λ v. v ≢ u) us (all_others u us once.0) n (follows c (u ∷ us) e there) (sym same)) in
      by ne (λ there. walk-before steps (cell_of u) us e.1 shorter once.1 there) (u == before) refl there
    where
      by : (u == n) ≡ false → (is_in us before ≡ true → reached_place (λ t. t == n) links steps (cell_of u) ≡ cell_of before) → (b : Bool) → (u == before) ≡ b
          → (b || is_in us before) ≡ true → reached_place (λ t. t == n) links (suc steps) c ≡ cell_of before
      by ne more true at there =
          goes_on (λ t. t == n) links steps c u e.0 ne ∙ (ap (λ m. reached_place (λ t. t == n) links steps (cell_of m)) (eqb-true u before at) ∙ stays steps)
      by ne more false other there = goes_on (λ t. t == n) links steps c u e.0 ne ∙ more there

pub before-reached : (places : List (Option Place)) (links : List (Option ℕ)) (marks : NumberSet) → IsQueued places links marks → (queue : ℕ) → queue < 612 → (before n : ℕ)
    → stands_in places queue before ≡ true → next_in links (cell_of before) ≡ Some n → cell_of before ≡ reached_place (λ t. t == n) links (length places) queue
before-reached places links marks h queue low before n stands linked =
    sym (walk-before links before n linked (length places) queue (h.line queue) (h.chain queue low) (lines-few places links marks h queue) (h.once queue) (h.member queue before ∙ stands))

-- a walk to the first thread ends at the queue's beginning
pub first-reached : (links : List (Option ℕ)) (steps queue n : ℕ) → next_in links queue ≡ Some n → queue ≡ reached_place (λ t. t == n) links steps queue
first-reached links zero queue n e = refl
first-reached links (suc steps) queue n e = sym (stops (λ t. t == n) links steps queue n e (eqb-same n))

-- a queue with a first thread is marked
pub marked-first : (places : List (Option Place)) (links : List (Option ℕ)) (marks : NumberSet) → IsQueued places links marks → (queue : ℕ) → queue < 612 → (first : Option ℕ)
    → first ≡ next_in links queue → is_some first ≡ true → contains marks queue ≡ true
marked-first places links marks h queue low first at e = h.marked queue low ∙ (ap (λ (o : Option ℕ). is_some o) (sym at) ∙ e)
