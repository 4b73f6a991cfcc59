-- A thread that is alone, apart from the queues.
use Rattle.std.proofs.Common.{◌≡◌, ◌≢◌, ℕ, suc, zero, ◌<◌, ◌==◌, Bool, true, false, List, [], ◌∷◌, length, Option, Some, None, is_some, slice_set, slice_index_or, if◌then◌else◌, refl, sym, ap, ◌∙◌, subst, arith}
use Rattle.std.proofs.lemmas.Bool.{false≢true, eqb-true}
use Rattle.std.proofs.lemmas.Bool.Decides.{nat_tests}
use Rattle.std.proofs.lemmas.List.{get_or-set_other, get_or-set_same, length-set, set-set}
use Rattle.evl_sched.specs.declared.contenders.Alone.{Alone}
use Rattle.evl_sched.specs.declared.place.Place.{Place}
use Rattle.evl_sched.specs.Apart.{IsApart, is_alone, with_alone}
use Rattle.evl_sched.specs.Places.{IsNotAfter, goes_before, place_of}
use Rattle.evl_sched.specs.Queues.{IsFirstPlace}
use Rattle.evl_sched.proofs.QueueChanges.{not_after, not_after_both, not_before}

-- two cells are written in either order
set-apart : {A : Type 0} (xs : List A) (i j : ℕ) (a b : A) → i ≢ j → slice_set (slice_set xs i a) j b ≡ slice_set (slice_set xs j b) i a
set-apart [] i j a b ne = refl
set-apart (x ∷ xs) zero zero a b ne = absurd (ne refl)
set-apart (x ∷ xs) zero (suc j) a b ne = refl
set-apart (x ∷ xs) (suc i) zero a b ne = refl
set-apart {A = A} (x ∷ xs) (suc i) (suc j) a b ne = ap (λ (ys : List A). x ∷ ys) (set-apart xs i j a b (λ e. ne (ap suc e)))

-- a cell that has nothing is none the other for that
set-none : (xs : List (Option Place)) (i : ℕ) → slice_index_or xs i None ≡ None → slice_set xs i None ≡ xs
set-none [] i e = refl
set-none (x ∷ xs) zero e = ap (λ (y : Option Place). y ∷ xs) (sym e)
set-none (x ∷ xs) (suc i) e = ap (λ (ys : List (Option Place)). x ∷ ys) (set-none xs i e)

module _ (places : List (Option Place)) (alone : Alone) (h : IsApart places (Some alone)) where
  abbrev all : List (Option Place)
  all = with_alone places (Some alone)

  its-place : place_of all alone.thread ≡ Some alone.place
  its-place = get_or-set_same places alone.thread (Some alone.place) None h.0

  others-place : (t : ℕ) → t ≢ alone.thread → place_of all t ≡ place_of places t
  others-place t ne = get_or-set_other places alone.thread t (Some alone.place) None ne

  pub place-alone : (t : ℕ) → (alone.thread == t) ≡ true → Some alone.place ≡ place_of all t
  place-alone t is = sym (subst (λ u. place_of all u ≡ Some alone.place) (eqb-true alone.thread t is) its-place)

  pub place-beside : (t : ℕ) → (alone.thread == t) ≡ false → place_of places t ≡ place_of all t
  place-beside t ne = sym (others-place t (λ e. absurd (grind (arith, nat_tests))))

  -- nobody goes before the thread that is alone, where there are no others, or the first of the others doesn't
  pub alone-first : ((t : ℕ) (b : Place) → place_of places t ≡ Some b → IsNotAfter alone.place b) → IsFirstPlace all (Some alone.thread)
  alone-first first = (ap is_some its-place, λ t a b at bt. by t a b at bt (t == alone.thread) refl)
    where
      mine : (a : Place) → place_of all alone.thread ≡ Some a → alone.place ≡ a
      mine a at = let s : Some alone.place ≡ Some a = sym its-place ∙ at in cc

      by : (t : ℕ) (a b : Place) → place_of all alone.thread ≡ Some a → place_of all t ≡ Some b → (c : Bool) → (t == alone.thread) ≡ c → IsNotAfter a b
      by t a b at bt true is =
          let same : alone.place ≡ b = mine b (subst (λ u. place_of all u ≡ Some b) (eqb-true t alone.thread is) bt) in
          let one : a ≡ b = sym (mine a at) ∙ same in
          subst (λ (p : Place). IsNotAfter a p) one (record { rank = omega arith; stamp = λ e. omega arith })
      by t a b at bt false ne =
          let other : t ≢ alone.thread = λ e. absurd (grind (arith, nat_tests)) in
          subst (λ (p : Place). IsNotAfter p b) (mine a at) (first t b (sym (others-place t other) ∙ bt))

  -- the first of the others goes before the thread that is alone
  pub other-first : (n : ℕ) (place : Place) → place_of places n ≡ Some place → IsFirstPlace places (Some n) → IsNotAfter place alone.place → IsFirstPlace all (Some n)
  other-first n place at first before = (ap is_some there, λ t a b an bt. by t a b an bt (t == alone.thread) refl)
    where
      apart : n ≢ alone.thread
      apart e = let s : Some place ≡ None = sym at ∙ (ap (λ u. place_of places u) e ∙ h.1) in cc

      there : place_of all n ≡ Some place
      there = others-place n apart ∙ at

      mine : (a : Place) → place_of all n ≡ Some a → place ≡ a
      mine a an = let s : Some place ≡ Some a = sym there ∙ an in cc

      by : (t : ℕ) (a b : Place) → place_of all n ≡ Some a → place_of all t ≡ Some b → (c : Bool) → (t == alone.thread) ≡ c → IsNotAfter a b
      by t a b an bt true is =
          let its : Some alone.place ≡ Some b = sym its-place ∙ subst (λ u. place_of all u ≡ Some b) (eqb-true t alone.thread is) bt in
          let one : alone.place ≡ b = cc in
          subst (λ (p : Place). IsNotAfter a p) one (subst (λ (p : Place). IsNotAfter p alone.place) (mine a an) before)
      by t a b an bt false ne =
          let other : t ≢ alone.thread = λ e. absurd (grind (arith, nat_tests)) in
          first.1 t a b (at ∙ ap Some (mine a an)) (sym (others-place t other) ∙ bt)

  -- the thread that is alone goes
  pub alone-gone : (t : ℕ) → (alone.thread == t) ≡ true → places ≡ slice_set all t None
  alone-gone t is =
      subst (λ u. places ≡ slice_set all u None) (eqb-true alone.thread t is)
      (sym (set-none places alone.thread h.1) ∙ sym (set-set places alone.thread (Some alone.place) None))

-- the first of the others, and the thread that is alone
pub first-both : (places : List (Option Place)) (alone : Alone) → IsApart places (Some alone) → (n : ℕ) (place : Place) → place_of places n ≡ Some place
    → IsFirstPlace places (Some n) → (b : Bool) → goes_before place alone.place ≡ b → IsFirstPlace (with_alone places (Some alone)) (Some (if b then n else alone.thread))
first-both places alone h n place at first true before = other-first places alone h n place at first (not_after place alone.place before)
first-both places alone h n place at first false before =
    alone-first places alone h (λ t b bt. not_after_both alone.place place b (not_before place alone.place before) (first.1 t place b at bt))

-- a thread that isn't alone comes to the others, or goes from them
module _ (places : List (Option Place)) (t : ℕ) where
  pub alone-set : (alone : Option Alone) → is_alone alone t ≡ false → (place : Option Place) → with_alone (slice_set places t place) alone ≡ slice_set (with_alone places alone) t place
  alone-set None ne place = refl
  alone-set (Some alone) ne place = set-apart places t alone.thread place (Some alone.place) (λ e. absurd (grind (arith, nat_tests)))

  -- a thread that has no place isn't alone, and is in no queue
  pub free-other : (alone : Option Alone) → IsApart places alone → place_of (with_alone places alone) t ≡ None → is_alone alone t ≡ false
  free-other None h free = refl
  free-other (Some alone) h free = by (alone.thread == t) refl
    where
      by : (b : Bool) → (alone.thread == t) ≡ b → b ≡ false
      by false ne = refl
      by true is = let s : Some alone.place ≡ None = place-alone places alone h t is ∙ free in cc

  pub free-queues : (alone : Option Alone) → IsApart places alone → place_of (with_alone places alone) t ≡ None → place_of places t ≡ None
  free-queues None h free = free
  free-queues (Some alone) h free = place-beside places alone h t (free-other (Some alone) h free) ∙ free

  pub gone : (alone : Option Alone) → IsApart places alone → is_alone alone t ≡ true → places ≡ slice_set (with_alone places alone) t None
  gone None h is = absurd (false≢true is)
  gone (Some alone) h is = alone-gone places alone h t is
