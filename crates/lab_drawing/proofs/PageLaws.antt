-- The part that is cut off a list at a place that may lie after its end.
use Rattle.std.proofs.Common.{arith, ◌≡◌, ◌≤◌, ℕ, zero, suc, List, [], ◌∷◌, drop, length, take, refl, ap}

pub take_short : {X : Type 0} (xs : List X) (n : ℕ) → length xs ≤ n → take n xs ≡ xs
take_short [] zero h = refl
take_short [] (suc n) h = refl
take_short (x ∷ xs) zero h = absurd (omega (arith, h))
take_short (x ∷ xs) (suc n) h = ap (λ rest. x ∷ rest) (take_short xs n (omega (arith, h)))

pub drop_short : {X : Type 0} (xs : List X) (n : ℕ) → length xs ≤ n → drop n xs ≡ []
drop_short [] zero h = refl
drop_short [] (suc n) h = refl
drop_short (x ∷ xs) zero h = absurd (omega (arith, h))
drop_short (x ∷ xs) (suc n) h = drop_short xs n (omega (arith, h))

pub length_taken : {X : Type 0} (xs : List X) (n : ℕ) → n ≤ length xs → n ≡ length (take n xs)
length_taken [] zero h = refl
length_taken [] (suc n) h = absurd (omega (arith, h))
length_taken (x ∷ xs) zero h = refl
length_taken (x ∷ xs) (suc n) h = ap suc (length_taken xs n (omega (arith, h)))
