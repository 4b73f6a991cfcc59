-- Laws of each element of a list by its place, with one more after them; and the rest of a list.
use Rattle.std.proofs.Common.{◌≡◌, ℕ, zero, suc, ◌-◌, List, [], ◌∷◌, ◌++◌, length, take, drop, refl, sym, subst, ap, ◌∙◌, arith}
use Rattle.std.specs.Prelude.{Some, slice_get}
use Rattle.std.proofs.lemmas.Option.{same_Some}

pub one_more : {A : Type 0} (P : ℕ → A → Type 0) (xs : List A) (n : ℕ) (x : A) → length xs ≡ n → P n x → ((k : ℕ) (y : A) → slice_get xs k ≡ Some y → P k y)
    → (k : ℕ) (y : A) → slice_get (xs ++ x ∷ []) k ≡ Some y → P k y
one_more {A} P [] n x long p each zero y e = subst (λ (z : A). P zero z) (same_Some x y e) (subst (λ (m : ℕ). P m x) (sym long) p)
one_more P [] n x long p each (suc k) y e = cc
one_more P (z ∷ xs) n x long p each zero y e = each zero y e
one_more P (z ∷ xs) n x long p each (suc k) y e =
    one_more (λ m. P (suc m)) xs (length xs) x refl (subst (λ (m : ℕ). P m x) (sym long) p) (λ j w at. each (suc j) w at) k y e

-- as many elements as are left are the whole rest
take_whole : {A : Type 0} (xs : List A) → take (length xs) xs ≡ xs
take_whole [] = refl
take_whole {A} (x ∷ xs) = ap (λ (ys : List A). x ∷ ys) (take_whole xs)

pub rest_whole : {A : Type 0} (xs : List A) (n : ℕ) → take (length xs - n) (drop n xs) ≡ drop n xs
rest_whole xs zero = let all : length xs - 0 ≡ length xs = omega arith in ap (λ (m : ℕ). take m xs) all ∙ take_whole xs
rest_whole {A} [] (suc n) = let none : 0 - suc n ≡ 0 = omega arith in let gone : List A = drop (suc n) [] in ap (λ (m : ℕ). take m gone) none
rest_whole (x ∷ xs) (suc n) = let less : suc (length xs) - suc n ≡ length xs - n = omega arith in ap (λ (m : ℕ). take m (drop n xs)) less ∙ rest_whole xs n
