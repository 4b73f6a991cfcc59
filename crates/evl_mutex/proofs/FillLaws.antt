-- A list whose items are written one after another, all alike.
use Rattle.std.proofs.Common.{◌≡◌, ◌<◌, ◌+◌, ◌≤◌, ℕ, zero, suc, List, [], ◌∷◌, ◌++◌, length, map, take, drop, replicate, slice_set, refl, ap, ◌∙◌, arith, append-nil}
use Rattle.std.proofs.lemmas.List.{drop_all, take_all}

module _ {X : Type 0} where
  filled_suc : (xs : List X) (i : ℕ) (y : X) → i < length xs → slice_set (replicate i y ++ drop i xs) i y ≡ replicate (suc i) y ++ drop (suc i) xs
  filled_suc [] i y inside = absurd (omega (arith, inside))
  filled_suc (x ∷ xs) zero y inside = refl
  filled_suc (x ∷ xs) (suc i) y inside = ap (λ (zs : List X). y ∷ zs) (filled_suc xs i y (omega (arith, inside)))

  pub filled_more : (xs : List X) (i : ℕ) (y : X) → i < length xs → slice_set (replicate i y ++ drop i xs) i y ≡ replicate (i + 1) y ++ drop (i + 1) xs
  filled_more xs i y inside =
      let next : suc i ≡ i + 1 = omega arith in
      filled_suc xs i y inside ∙ ap (λ (n : ℕ). replicate n y ++ drop n xs) next

  pub filled_all : (xs : List X) (i : ℕ) (y : X) → i ≡ length xs → replicate i y ++ drop i xs ≡ replicate (length xs) y
  filled_all [] zero y is = refl
  filled_all [] (suc i) y is = absurd (omega (arith, is))
  filled_all (x ∷ xs) zero y is = absurd (omega (arith, is))
  filled_all (x ∷ xs) (suc i) y is = ap (λ (zs : List X). y ∷ zs) (filled_all xs i y (omega (arith, is)))

  -- each item is written once by itself
  pub whole_map : (f : X → X) (xs : List X) (i : ℕ) → length xs ≤ i → map f (take i xs) ++ drop i xs ≡ map f xs
  whole_map f xs i all =
      ap (λ (ys : List X). map f ys ++ drop i xs) (take_all i xs all) ∙ ap (λ (ys : List X). map f xs ++ ys) (drop_all i xs all) ∙ append-nil (map f xs)
