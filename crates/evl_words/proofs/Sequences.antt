-- Lists read by `get_elem?`, their beginnings, and sums over them.
use Rattle.std.proofs.Common.{◌≡◌, ℕ, zero, suc, ◌+◌, ◌≤◌, ◌<◌, ◌≢◌, List, [], ◌∷◌, ◌++◌, length, map, set, get_or, refl, sym, ap, ◌∙◌, append_assoc, append-nil, length-append, arith}
use Rattle.std.specs.Prelude.{sum_by, replicate, All}
use Rattle.std.proofs.lemmas.List.Sums.{sum_by-cons}
use Rattle.std.proofs.lemmas.List.Elements.{All-nil, All-cons, All-head, All-tail}
use mathlib.Core.List.{IsPrefix}
use mathlib.Core.Option.{some, some-injective, some-ne-none}
use lib.ListN.{get_elem?}

module _ {A : Type 0} where
  pub at_below : (l : List A) (i : ℕ) (a : A) → get_elem? l i ≡ some a → i < length l
  at_below [] i a e = absurd (some-ne-none a (sym e))
  at_below (x ∷ xs) zero a e = omega arith
  at_below (x ∷ xs) (suc i) a e = let h = at_below xs i a e in omega arith

  pub at_some : (l : List A) (i : ℕ) → i < length l → (a : A) × (get_elem? l i ≡ some a)
  at_some [] i lt = absurd (omega arith)
  at_some (x ∷ xs) zero lt = (x, refl)
  at_some (x ∷ xs) (suc i) lt = at_some xs i (omega arith)

  pub prefix_refl : (xs : List A) → IsPrefix xs xs
  prefix_refl xs = ([], append-nil xs)

  pub prefix_more : (xs ys zs : List A) → IsPrefix xs ys → IsPrefix xs (ys ++ zs)
  prefix_more xs ys zs p = (p.0 ++ zs, sym (append_assoc xs p.0 zs) ∙ ap (λ l. l ++ zs) p.1)

  pub prefix_trans : (xs ys zs : List A) → IsPrefix xs ys → IsPrefix ys zs → IsPrefix xs zs
  prefix_trans xs ys zs p q = (p.0 ++ q.0, sym (append_assoc xs p.0 q.0) ∙ ap (λ l. l ++ q.0) p.1 ∙ q.1)

  pub map-set : {B : Type 0} (f : A → B) (xs : List A) (i : ℕ) (x : A) → map f (set xs i x) ≡ set (map f xs) i (f x)
  map-set f [] i x = refl
  map-set f (y ∷ ys) zero x = refl
  map-set f (y ∷ ys) (suc i) x = ap (λ l. f y ∷ l) (map-set f ys i x)

  pub nil_is : (zs : List A) → length zs ≡ 0 → zs ≡ []
  nil_is [] q = refl
  nil_is (z ∷ zs) q = absurd (omega arith)

  pub append_same : (xs ys : List A) → xs ++ ys ≡ xs → ys ≡ []
  append_same xs ys e = let n = ap length e in nil_is ys (omega (arith, n, length-append xs ys))

  pub at_replicate : (n k : ℕ) (x y : A) → get_elem? (replicate n x) k ≡ some y → x ≡ y
  at_replicate zero k x y e = absurd (some-ne-none y (sym e))
  at_replicate (suc n) zero x y e = some-injective x y e
  at_replicate (suc n) (suc k) x y e = at_replicate n k x y e

  pub map-replicate : {B : Type 0} (f : A → B) (n : ℕ) (x : A) → map f (replicate n x) ≡ replicate n (f x)
  map-replicate f zero x = refl
  map-replicate f (suc n) x = ap (λ l. f x ∷ l) (map-replicate f n x)

  pub all_at : (P : A → Type 0) (xs : List A) (x : A) (ys : List A) → All P (xs ++ x ∷ ys) → P x
  all_at P [] x ys h = All-head P x ys h
  all_at P (y ∷ xs) x ys h = all_at P xs x ys (All-tail P y (xs ++ x ∷ ys) h)

  -- what follows for each of the list without its last one
  pub all_front : (P Q : A → Type 0) → ((x : A) → P x → Q x) → (xs : List A) (x : A) → All P (xs ++ x ∷ []) → All Q xs
  all_front P Q f [] x all = All-nil Q
  all_front P Q f (y ∷ xs) x all = All-cons Q y xs (f y (All-head P y (xs ++ x ∷ []) all)) (all_front P Q f xs x (All-tail P y (xs ++ x ∷ []) all))

  module _ (f : A → ℕ) where
    pub total_set : (l : List A) (i : ℕ) (a b : A) → get_elem? l i ≡ some a → sum_by f (set l i b) + f a ≡ sum_by f l + f b
    total_set [] i a b e = absurd (some-ne-none a (sym e))
    total_set (x ∷ xs) zero a b e =
        let same : f x ≡ f a = ap f (some-injective x a e) in
        omega (arith, sum_by-cons f b xs, sum_by-cons f x xs)
    total_set (x ∷ xs) (suc i) a b e = omega (arith, sum_by-cons f x (set xs i b), sum_by-cons f x xs, total_set xs i a b e)

    pub total_at : (l : List A) (i : ℕ) (a : A) → get_elem? l i ≡ some a → f a ≤ sum_by f l
    total_at [] i a e = absurd (some-ne-none a (sym e))
    total_at (x ∷ xs) zero a e = let same : f x ≡ f a = ap f (some-injective x a e) in omega (arith, sum_by-cons f x xs)
    total_at (x ∷ xs) (suc i) a e = omega (arith, sum_by-cons f x xs, total_at xs i a e)

    pub total_two : (l : List A) (i j : ℕ) (a b : A) → i ≢ j → get_elem? l i ≡ some a → get_elem? l j ≡ some b → f a + f b ≤ sum_by f l
    total_two [] i j a b ne e g = absurd (some-ne-none a (sym e))
    total_two (x ∷ xs) zero zero a b ne e g = absurd (ne refl)
    total_two (x ∷ xs) zero (suc j) a b ne e g =
        let same : f x ≡ f a = ap f (some-injective x a e) in
        omega (arith, sum_by-cons f x xs, total_at xs j b g)
    total_two (x ∷ xs) (suc i) zero a b ne e g =
        let same : f x ≡ f b = ap f (some-injective x b g) in
        omega (arith, sum_by-cons f x xs, total_at xs i a e)
    total_two (x ∷ xs) (suc i) (suc j) a b ne e g =
        let ne' : i ≢ j = λ q. ne (ap suc q) in
        omega (arith, sum_by-cons f x xs, total_two xs i j a b ne' e g)

pub first_is : (l : List ℕ) (n : ℕ) → get_elem? l 0 ≡ some n → get_or l 0 0 ≡ n
first_is [] n e = absurd (some-ne-none n (sym e))
first_is (x ∷ xs) n e = some-injective x n e
