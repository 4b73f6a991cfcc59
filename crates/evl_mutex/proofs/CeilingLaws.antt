-- The greatest ceiling that is recorded for a thread: what a change of one mutex leaves of it, and how it is looked up again.
use Rattle.std.proofs.Common.{◌≡◌, ℕ, zero, suc, max, ◌<◌, ◌==◌, Bool, true, false, not, ◌&&◌, inl, inr, List, [], ◌∷◌, length, map, slice_get, slice_set, slice_index, Option, Some, None, is_some, unwrap_or, if◌then◌else◌, refl, sym, ap, ◌∙◌, subst, arith}
use Rattle.std.specs.Option.{option_map_or}
use Rattle.std.proofs.lemmas.Bool.{false≢true, eqb-true}
use Rattle.std.proofs.lemmas.List.{length-set, get_or-set_same, get_or-set_other}
use Rattle.evl_mutex.specs.Queues.{is_nobody, dropped_from}
use Rattle.evl_mutex.specs.Mutexes.{Mutex, has_ceiling, ceiling_of, drop_waiter}
use Rattle.evl_mutex.specs.Ranks.{ceiling_for, ceilings}
use Rattle.evl_mutex.specs.Views.{looked_up, looked_up_at}
use Rattle.evl_mutex.proofs.LendingLaws.{same_or_not}

pub ceiling-away : (t : ℕ) (m : Mutex) → (m.owner ≡ Some t → ⊥) → ceiling_for t m ≡ 0
ceiling-away t m away = by_owner m.owner refl
  where
    by_test : (owner : ℕ) → m.owner ≡ Some owner → (b : Bool) → (owner == t) ≡ b → (if b then unwrap_or (ceiling_of m.kind) 0 else 0) ≡ 0
    by_test owner e true is = absurd (away (e ∙ ap Some (eqb-true owner t is)))
    by_test owner e false is = refl

    by_owner : (o : Option ℕ) → m.owner ≡ o → (if option_map_or (λ o. o == t) o false then unwrap_or (ceiling_of m.kind) 0 else 0) ≡ 0
    by_owner None e = refl
    by_owner (Some owner) e = by_test owner e (owner == t) refl

pub ceiling-none : (t : ℕ) (m : Mutex) → has_ceiling m ≡ false → ceiling_for t m ≡ 0
ceiling-none t m e = by_test (option_map_or (λ o. o == t) m.owner false) (ceiling_of m.kind) e
  where
    by_test : (b : Bool) (c : Option ℕ) → is_some c ≡ false → (if b then unwrap_or c 0 else 0) ≡ 0
    by_test true None e = refl
    by_test true (Some r) e = absurd (false≢true (sym e))
    by_test false c e = refl

pub ceilings-set : (t : ℕ) (m m2 : Mutex) → ceiling_for t m2 ≡ ceiling_for t m → (ms : List Mutex) (n : ℕ) → slice_get ms n ≡ Some m → ceilings t (slice_set ms n m2) ≡ ceilings t ms
ceilings-set t m m2 alike [] n at = refl
ceilings-set t m m2 alike (x ∷ xs) zero at = ap (λ r. max r (ceilings t xs)) (alike ∙ ap (ceiling_for t) (one at))
  where
    one : Some x ≡ Some m → m ≡ x
    one e = cc
ceilings-set t m m2 alike (x ∷ xs) (suc n) at = ap (max (ceiling_for t x)) (ceilings-set t m m2 alike xs n at)

-- a waiter that leaves takes no ceiling with it
pub ceiling-left : (t u : ℕ) (m : Mutex) → ceiling_for t (drop_waiter u m) ≡ ceiling_for t m
ceiling-left t u m = by_test (is_nobody (dropped_from u m.waiters)) (has_ceiling m) refl
  where
    by_test : (a b : Bool) → has_ceiling m ≡ b
        → (if option_map_or (λ o. o == t) (if a && not b then None else m.owner) false then unwrap_or (ceiling_of m.kind) 0 else 0) ≡ ceiling_for t m
    by_test true true e = refl
    by_test true false e = sym (ceiling-none t m e)
    by_test false b e = refl

pub ceilings-dropped : (t u : ℕ) (ms : List Mutex) → ceilings t (map (drop_waiter u) ms) ≡ ceilings t ms
ceilings-dropped t u [] = refl
ceilings-dropped t u (m ∷ ms) = omega (arith, ceiling-left t u m, ceilings-dropped t u ms)

-- the ceiling of one thread is looked up again
pub looked-at : (ms : List Mutex) (raised : List ℕ) (n : ℕ) → length raised ≡ n → (thread : Option ℕ) → ((u : ℕ) → thread ≡ Some u → u < n) → (t : ℕ)
    → ((thread ≡ Some t → ⊥) → slice_index raised t ≡ ceilings t ms) → slice_index (looked_up ms raised thread) t ≡ ceilings t ms
looked-at ms raised n all None low t was = was (λ e. nobody e)
  where
    nobody : None ≡ Some t → ⊥
    nobody e = cc
looked-at ms raised n all (Some u) low t was = elim (same_or_not t u) [
  | inl here ↦
      let P : ℕ → Type 0 = λ k. slice_index (slice_set raised u (ceilings u ms)) k ≡ ceilings k ms in
      subst P (sym here) (get_or-set_same raised u (ceilings u ms) 0 (omega (arith, all, low u refl)))
  | inr away ↦ get_or-set_other raised u t (ceilings u ms) 0 away ∙ was (λ e. away (one e))
]
  where
    one : Some u ≡ Some t → t ≡ u
    one e = cc

pub count-looked : (ms : List Mutex) (raised : List ℕ) (thread : Option ℕ) → length (looked_up ms raised thread) ≡ length raised
count-looked ms raised None = refl
count-looked ms raised (Some u) = length-set raised u (ceilings u ms)

pub count-looked_at : (p : Option Mutex) (ms : List Mutex) (raised : List ℕ) (thread : Option ℕ) → length (looked_up_at p ms raised thread) ≡ length raised
count-looked_at None ms raised thread = refl
count-looked_at (Some m) ms raised thread = by_test (has_ceiling m)
  where
    by_test : (b : Bool) → length (if b then looked_up ms raised thread else raised) ≡ length raised
    by_test true = count-looked ms raised thread
    by_test false = refl
