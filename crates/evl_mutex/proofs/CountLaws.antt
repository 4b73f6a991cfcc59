-- How many wait for a thread, as it is noted: what a change of one note makes of it, and what is known where nobody waits or
-- one alone.
use Rattle.std.proofs.Common.{◌≡◌, ◌≢◌, ℕ, zero, suc, ◌+◌, ◌-◌, ◌^◌, ◌<◌, ◌≤◌, ◌==◌, min, Bool, true, false, ◌||◌, inl, inr, List, [], ◌∷◌, drop, length, replicate, slice_index, slice_set, Option, Some, None, refl, sym, ap, ◌∙◌, subst, arith}
use Rattle.std.specs.Option.{option_map_or}
use Rattle.std.proofs.lemmas.Bool.{false≢true, eqb-true, ne_eqb}
use Rattle.std.proofs.lemmas.List.{at_drop_more, length-set, get_or-set_same, get_or-set_other}
use Rattle.evl_base.proofs.Plain.{eqb-same as same}
use Rattle.evl_mutex.specs.Chains.{reaches}
use Rattle.evl_mutex.specs.Owners.{one_if}
use Rattle.evl_mutex.specs.Views.{ahead_in, is_for, waiters_of, AreCounted}
use Rattle.evl_mutex.proofs.LendingLaws.{same_or_not}
use Rattle.evl_mutex.proofs.LoweringLaws.{noted-within}

-- one note is changed
count-set : (ahead : List (Option ℕ)) (u t : ℕ) (v : Option ℕ) → u < length ahead
    → waiters_of (slice_set ahead u v) t + one_if (is_for t (ahead_in ahead u)) ≡ waiters_of ahead t + one_if (is_for t v)
count-set [] u t v l = absurd (omega (arith, l))
count-set (o ∷ os) zero t v l = omega arith
count-set (o ∷ os) (suc u) t v l = omega (arith, count-set os u t v (omega (arith, l)))

count-least : (ahead : List (Option ℕ)) (u t : ℕ) → one_if (is_for t (ahead_in ahead u)) ≤ waiters_of ahead t
count-least [] u t = omega arith
count-least (o ∷ os) zero t = omega arith
count-least (o ∷ os) (suc u) t = omega (arith, count-least os u t)

count-most : (ahead : List (Option ℕ)) (t : ℕ) → waiters_of ahead t ≤ length ahead
count-most [] t = omega arith
count-most (o ∷ os) t = omega (arith, count-most os t, at_most (is_for t o))
  where
    at_most : (b : Bool) → one_if b ≤ 1
    at_most true = omega arith
    at_most false = omega arith

pub counted-noted : (n : ℕ) (ahead : List (Option ℕ)) (old between new : List ℕ) (thread : ℕ) (owner : Option ℕ) → length ahead < 2 ^ 16 → thread < length ahead
    → length between ≡ length old → ((t : ℕ) → slice_index between t ≡ slice_index old t - one_if (is_for t (ahead_in ahead thread)))
    → length new ≡ length between → ((t : ℕ) → t < length between → slice_index between t + one_if (is_for t owner) < 2 ^ 16 → slice_index new t ≡ slice_index between t + one_if (is_for t owner))
    → AreCounted n ahead old → AreCounted n (slice_set ahead thread owner) new
counted-noted n ahead old between new thread owner few there count fewer counts more is = record {
  all = counts ∙ count ∙ is.all;
  each = λ t l.
      let least = count-least ahead thread t in let set = count-set ahead thread t owner there in let most = count-most (slice_set ahead thread owner) t in
      let fits : slice_index between t + one_if (is_for t owner) < 2 ^ 16 = omega (arith, fewer t, is.each t l, least, set, most, length-set ahead thread owner, few) in
      omega (arith, more t (omega (arith, l, count, is.all)) fits, fewer t, is.each t l, least, set);
}

-- nobody waits
pub nobody-waits : (ahead : List (Option ℕ)) (t : ℕ) → waiters_of ahead t ≡ 0 → (from : ℕ) → ahead_in ahead from ≡ Some t → ⊥
nobody-waits ahead t none from e = omega (arith, none, count-least ahead from t, ap (λ o. one_if (is_for t o)) e, ap one_if (same t))

-- nobody waits from a place on
pub nobody-later : (ahead : List (Option ℕ)) (t k from : ℕ) → waiters_of (drop k ahead) t ≡ 0 → k ≤ from → ahead_in ahead from ≡ Some t → ⊥
nobody-later [] t k from none l e = cc
nobody-later (o ∷ os) t zero from none l e = nobody-waits (o ∷ os) t none from e
nobody-later (o ∷ os) t (suc k) zero none l e = omega (arith, l)
nobody-later (o ∷ os) t (suc k) (suc from) none l e = nobody-later os t k from none (omega (arith, l)) e

-- one step along the notes
pub counted-off : (ahead : List (Option ℕ)) (t k : ℕ) → k < length ahead → waiters_of (drop k ahead) t ≡ one_if (is_for t (ahead_in ahead k)) + waiters_of (drop (k + 1) ahead) t
counted-off ahead t k l = at_drop_more (λ os. waiters_of os t) ahead k None l

pub waits-for-it : (t : ℕ) (owner : Option ℕ) → is_for t owner ≡ true → owner ≡ Some t
waits-for-it t None e = cc
waits-for-it t (Some o) e = ap Some (eqb-true o t e)

pub waits-elsewhere : (t : ℕ) (owner : Option ℕ) → is_for t owner ≡ false → owner ≡ Some t → ⊥
waits-elsewhere t owner none e = false≢true (sym none ∙ ap (is_for t) e ∙ same t)

-- one alone waits
pub one-waits : (ahead : List (Option ℕ)) (t a b : ℕ) → waiters_of ahead t ≡ 1 → ahead_in ahead a ≡ Some t → ahead_in ahead b ≡ Some t → b ≡ a
one-waits ahead t a b one at_a at_b = elim (same_or_not b a) [
  | inl here ↦ here
  | inr ne ↦ absurd (nobody-waits (slice_set ahead a None) t none b (get_or-set_other ahead a b None None ne ∙ at_b))
]
  where
    none : waiters_of (slice_set ahead a None) t ≡ 0
    none = omega (arith, count-set ahead a t None (noted-within ahead a t at_a), one, ap (λ o. one_if (is_for t o)) at_a, ap one_if (same t))

-- whom nobody waits for nobody reaches
pub unreached : (next : ℕ → Option ℕ) (to : ℕ) → ((from : ℕ) → next from ≡ Some to → ⊥) → (n from : ℕ) → reaches n next from to ≡ false
unreached next to away zero from = refl
unreached next to away (suc n) from = by_step (next from) refl (λ mid. unreached next to away n mid)
  where
    by_step : (o : Option ℕ) → next from ≡ o → ((mid : ℕ) → reaches n next mid to ≡ false) → option_map_or (λ mid. (mid == to) || reaches n next mid to) o false ≡ false
    by_step None e rest = refl
    by_step (Some mid) e rest = ap (λ b. b || reaches n next mid to) (ne_eqb mid to (λ at. away from (e ∙ ap Some at))) ∙ rest mid

-- one less waits for a thread, and one more where the sum fits
module _ (counts : List ℕ) (u t : ℕ) where
  differs : (u == t) ≡ false → t ≢ u
  differs e at = false≢true (sym e ∙ ap (λ k. u == k) at ∙ same u)

  pub one-less : slice_index (slice_set counts u (slice_index counts u - 1)) t ≡ slice_index counts t - one_if (is_for t (Some u))
  one-less = by_test (u == t) refl
    where
      there : (cs : List ℕ) (k : ℕ) → slice_index (slice_set cs k (slice_index cs k - 1)) k ≡ slice_index cs k - 1
      there [] k = omega arith
      there (c ∷ cs) zero = refl
      there (c ∷ cs) (suc k) = there cs k

      by_test : (b : Bool) → (u == t) ≡ b → slice_index (slice_set counts u (slice_index counts u - 1)) t ≡ slice_index counts t - one_if b
      by_test true e = let P : ℕ → Type 0 = λ k. slice_index (slice_set counts u (slice_index counts u - 1)) k ≡ slice_index counts k - 1 in subst P (eqb-true u t e) (there counts u)
      by_test false e = get_or-set_other counts u t (slice_index counts u - 1) 0 (differs e) ∙ omega arith

  pub one-more : t < length counts → slice_index counts t + one_if (is_for t (Some u)) < 2 ^ 16
      → slice_index (slice_set counts u (min (slice_index counts u + 1) (2 ^ 16 - 1))) t ≡ slice_index counts t + one_if (is_for t (Some u))
  one-more l fits = by_test (u == t) refl fits
    where
      by_test : (b : Bool) → (u == t) ≡ b → slice_index counts t + one_if b < 2 ^ 16 → slice_index (slice_set counts u (min (slice_index counts u + 1) (2 ^ 16 - 1))) t ≡ slice_index counts t + one_if b
      by_test true e fits =
          let P : ℕ → Type 0 = λ k. k < length counts → slice_index counts k + 1 < 2 ^ 16 → slice_index (slice_set counts u (min (slice_index counts u + 1) (2 ^ 16 - 1))) k ≡ slice_index counts k + 1 in
          subst P (eqb-true u t e) (λ l fits. get_or-set_same counts u (min (slice_index counts u + 1) (2 ^ 16 - 1)) 0 l ∙ omega (arith, fits)) l fits
      by_test false e fits = get_or-set_other counts u t (min (slice_index counts u + 1) (2 ^ 16 - 1)) 0 (differs e) ∙ omega arith

-- of as many threads
pub counted-by : (n m : ℕ) (ahead : List (Option ℕ)) (lenders : List ℕ) → m ≡ n → AreCounted n ahead lenders → AreCounted m ahead lenders
counted-by n m ahead lenders e is = let P : ℕ → Type 0 = λ k. AreCounted k ahead lenders in subst P (sym e) is

-- where nobody waits
pub counted-fresh : (threads : ℕ) → AreCounted (length {A = ℕ} (replicate threads 0)) (replicate threads None) (replicate threads 0)
counted-fresh threads = record { all = refl; each = λ t l. zero-at threads t ∙ sym (nobody threads t) }
  where
    zero-at : (n t : ℕ) → slice_index (replicate n 0) t ≡ 0
    zero-at zero t = refl
    zero-at (suc n) zero = refl
    zero-at (suc n) (suc t) = zero-at n t

    nobody : (n t : ℕ) → waiters_of (replicate n None) t ≡ 0
    nobody zero t = refl
    nobody (suc n) t = omega (arith, nobody n t)
