-- Plain facts that the standard library has no name for, each stated once.
use Rattle.std.proofs.Common.{◌≡◌, ℕ, ◌==◌, false, true, Some, None, eq-eqb, refl, ◌∙◌, arith}
use Rattle.std.proofs.lemmas.Bool.Decides.{nat_tests}

pub some-none : {A : Type 0} (x : A) → Some x ≡ None → ⊥
some-none x e = cc

pub eqb-same : (n : ℕ) → (n == n) ≡ true
eqb-same n = eq-eqb n n refl

pub eqb-swap : (m n : ℕ) → (m == n) ≡ (n == m)
eqb-swap m n = grind (arith, nat_tests)

pub eqb-swap_false : (m n : ℕ) → (m == n) ≡ false → (n == m) ≡ false
eqb-swap_false m n e = eqb-swap n m ∙ e
