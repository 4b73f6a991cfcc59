-- A list after one of its elements was set.
use Rattle.std.proofs.Common.{◌≡◌, ℕ, zero, suc, ◌==◌, false, List, [], ◌∷◌, Some, slice_get, slice_set, refl, sym, ap, arith}
use Rattle.std.proofs.lemmas.Bool.{false≢true}
use Rattle.std.proofs.lemmas.Bool.Decides.{nat_tests}
use Rattle.std.proofs.lemmas.Option.{none-some, same_Some}

fewer : (m n : ℕ) → (suc m == suc n) ≡ false → (m == n) ≡ false
fewer m n e = grind (arith, nat_tests)

module _ {X : Type 0} where
  pub set_here : (xs : List X) (n : ℕ) (c v : X) → slice_get xs n ≡ Some c → slice_get (slice_set xs n v) n ≡ Some v
  set_here [] zero c v h = absurd (none-some _ h)
  set_here [] (suc n) c v h = absurd (none-some _ h)
  set_here (x ∷ xs) zero c v h = refl
  set_here (x ∷ xs) (suc n) c v h = set_here xs n c v h

  pub set_there : (xs : List X) (m n : ℕ) (v : X) → (m == n) ≡ false → slice_get (slice_set xs m v) n ≡ slice_get xs n
  set_there [] m n v e = refl
  set_there (x ∷ xs) zero zero v e = absurd (false≢true (sym e))
  set_there (x ∷ xs) zero (suc n) v e = refl
  set_there (x ∷ xs) (suc m) zero v e = refl
  set_there (x ∷ xs) (suc m) (suc n) v e = set_there xs m n v (fewer m n e)

-- an element that is set as it was
pub set_same : {A : Type 0} (xs : List A) (n : ℕ) (c : A) → slice_get xs n ≡ Some c → slice_set xs n c ≡ xs
set_same [] n c has = refl
set_same {A} (x ∷ xs) zero c has = ap (λ (y : A). y ∷ xs) (same_Some _ _ (sym has))
set_same {A} (x ∷ xs) (suc n) c has = ap (λ (ys : List A). x ∷ ys) (set_same xs n c has)

-- an element that is set twice
pub set_twice : {A : Type 0} (xs : List A) (n : ℕ) (y x : A) → slice_set (slice_set xs n y) n x ≡ slice_set xs n x
set_twice [] n y x = refl
set_twice {A} (z ∷ xs) zero y x = refl
set_twice {A} (z ∷ xs) (suc n) y x = ap (λ (ws : List A). z ∷ ws) (set_twice xs n y x)
