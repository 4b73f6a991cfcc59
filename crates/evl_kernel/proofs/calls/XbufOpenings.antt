-- Lists of cross-buffers that are made one by one.
use Rattle.std.proofs.Common.{◌≡◌, ◌+◌, ◌<◌, ℕ, zero, suc, Bool, true, ◌&&◌, List, [], ◌∷◌, ◌++◌, length, map, take, slice_index_or, refl, sym, ap, ◌∙◌, arith}
use Rattle.std.specs.List.{list_all}
use Rattle.std.proofs.lemmas.Bool.{and_parts}

module _ {A : Type 0} where
  -- what holds of all holds of the one at an index
  pub all_here : (p : A → Bool) (xs : List A) (i : ℕ) (d : A) → list_all p xs ≡ true → i < length xs → p (slice_index_or xs i d) ≡ true
  all_here p [] i d all l = absurd (omega (arith, l))
  all_here p (x ∷ xs) zero d all l = (and_parts (p x) (list_all p xs) all).0
  all_here p (x ∷ xs) (suc i) d all l = all_here p xs i d ((and_parts (p x) (list_all p xs) all).1) (omega (arith, l))

  more_taken : {B : Type 0} (f : A → B) (xs : List A) (i : ℕ) (d : A) → i < length xs → map f (take (suc i) xs) ≡ map f (take i xs) ++ f (slice_index_or xs i d) ∷ []
  more_taken f [] i d l = absurd (omega (arith, l))
  more_taken f (x ∷ xs) zero d l = refl
  more_taken f (x ∷ xs) (suc i) d l = ap (λ ys. f x ∷ ys) (more_taken f xs i d (omega (arith, l)))

  -- one was made more
  pub one_made : {B : Type 0} (f : A → B) (xs : List A) (i : ℕ) (d : A) (made more : List B) (one : B) → i < length xs → made ≡ map f (take i xs) → one ≡ f (slice_index_or xs i d)
      → more ≡ made ++ one ∷ [] → more ≡ map f (take (i + 1) xs)
  one_made f xs i d made more one l so is added =
      let next : i + 1 ≡ suc i = omega arith in
      added ∙ ((λ j. so j ++ is j ∷ []) ∙ (sym (more_taken f xs i d l) ∙ ap (λ n. map f (take n xs)) (sym next)))
