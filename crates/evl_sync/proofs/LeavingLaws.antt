-- A thread that is in a queue once leaves its place.
use Rattle.std.proofs.Common.{◌≡◌, ℕ, suc, ◌+◌, ◌==◌, nat_lt, Bool, true, false, not, ◌||◌, cond, List, [], ◌∷◌, Option, Some, None, length, remove, refl, sym, ap, subst, ◌∙◌, arith}
use Rattle.std.specs.List.{list_any, position, position_or_len}
use Rattle.std.proofs.lemmas.Bool.Decides.{nat_tests}
use Rattle.std.proofs.lemmas.Bool.{eqb-true, or_parts}
use Rattle.evl_sync.specs.Queues.{dropped_by, stands_in, AreRanked}
use Rattle.evl_sync.proofs.QueueLaws.{place_found, place_behind}

one_later : (m n : ℕ) → nat_lt (1 + m) (suc n) ≡ nat_lt m n
one_later m n = grind (arith, nat_tests)

above_zero : (n : ℕ) → nat_lt 0 (suc n) ≡ true
above_zero n = grind (arith, nat_tests)

by_suc : (n : ℕ) → 1 + n ≡ suc n
by_suc n = omega arith

some-place : (b : Bool) (n k : ℕ) → Some n ≡ cond b (Some k) None → true ≡ b
some-place true n k e = refl
some-place false n k e = cc

no-place : (b : Bool) (k : ℕ) → ◌≡◌ {A = Option ℕ} None (cond b (Some k) None) → false ≡ b
no-place true k e = cc
no-place false k e = refl

module _ {A : Type 0} where
  -- somebody passes where the first who does has a place
  any-at : (p : A → Bool) (ws : List A) → nat_lt (position_or_len p ws) (length ws) ≡ list_any p ws
  any-at p [] = refl
  any-at p (w ∷ ws) =
      elim (p w) as (λ b. nat_lt (cond (not b) (1 + position_or_len p ws) 0) (length (w ∷ ws)) ≡ (b || list_any p ws)) [
        | true ↦ above_zero (length ws)
        | false ↦ one_later (position_or_len p ws) (length ws) ∙ any-at p ws
      ]

  pub stands_found : (thread : A → ℕ) (t n : ℕ) (ws : List A) → Some n ≡ position (λ w. thread w == t) ws → true ≡ stands_in thread t ws
  stands_found thread t n ws e = some-place _ n _ e ∙ any-at (λ w. thread w == t) ws

  pub stands_nowhere : (thread : A → ℕ) (t : ℕ) (ws : List A) → None ≡ position (λ w. thread w == t) ws → false ≡ stands_in thread t ws
  stands_nowhere thread t ws e = no-place _ _ e ∙ any-at (λ w. thread w == t) ws

  away-same : (thread : A → ℕ) (t : ℕ) (ws : List A) → stands_in thread t ws ≡ false → dropped_by thread t ws ≡ ws
  away-same thread t [] e = refl
  away-same thread t (w ∷ ws) e =
      ap (λ b. cond (not b) (w ∷ dropped_by thread t ws) (dropped_by thread t ws)) ((or_parts (thread w == t) (stands_in thread t ws) e).0)
      ∙ ap (λ xs. w ∷ xs) (away-same thread t ws ((or_parts (thread w == t) (stands_in thread t ws) e).1))

  removed : (thread rank : A → ℕ) (t : ℕ) (ws : List A) → AreRanked thread rank ws → remove ws (position_or_len (λ w. thread w == t) ws) ≡ dropped_by thread t ws
  removed thread rank t [] h = refl
  removed thread rank t (w ∷ ws) h =
      elim (thread w == t) as (λ b. (thread w == t) ≡ b → remove (w ∷ ws) (cond (not b) (1 + position_or_len (λ v. thread v == t) ws) 0) ≡ cond (not b) (w ∷ dropped_by thread t ws) (dropped_by thread t ws)) [
        | true ↦ λ at. sym (away-same thread t ws (subst (λ q. stands_in thread q ws ≡ false) (eqb-true (thread w) t at) h.1))
        | false ↦ λ at. ap (λ k. remove (w ∷ ws) k) (by_suc (position_or_len (λ v. thread v == t) ws)) ∙ ap (λ xs. w ∷ xs) (removed thread rank t ws h.2)
      ] refl

  pub dropped_found : (thread rank : A → ℕ) (t n : ℕ) (ws after : List A) → after ≡ remove ws n → AreRanked thread rank ws → Some n ≡ position (λ w. thread w == t) ws → after ≡ dropped_by thread t ws
  dropped_found thread rank t n ws after left h e = left ∙ ap (λ k. remove ws k) (place_found (λ w. thread w == t) ws n e) ∙ removed thread rank t ws h

  pub dropped_nowhere : (thread : A → ℕ) (t : ℕ) (ws : List A) → None ≡ position (λ w. thread w == t) ws → ws ≡ dropped_by thread t ws
  dropped_nowhere thread t ws e = sym (away-same thread t ws (sym (stands_nowhere thread t ws e)))
