-- The first of the nearest words, found one by one.
use Rattle.std.proofs.Common.{◌≡◌, ◌∙◌, ℕ, ◌≤◌, nat_le, Bool, true, false, List, Option, Some, None, drop, length, map, refl, sym, ap, arith}
use Rattle.std.proofs.lemmas.List.{drop_all}
use Rattle.std.proofs.lemmas.Bool.Decides.{nat_tests}
use Rattle.evl_base.specs.Firsts.{best, better}
use Rattle.evl_base.proofs.FirstLaws as firsts
use Rattle.lab_faults.specs.Wants.{edits, near_words, nearest}

le_same : (a : ℕ) → nat_le a a ≡ true
le_same a = grind (arith, nat_tests)

le_both : (a b c : ℕ) → nat_le a b ≡ true → nat_le b c ≡ true → nat_le a c ≡ true
le_both a b c e f = grind (arith, nat_tests)

le_none : (a b c : ℕ) → nat_le a b ≡ false → nat_le b c ≡ false → nat_le a c ≡ false
le_none a b c e f = grind (arith, nat_tests)

module _ (text : List ℕ) where
  abbrev pub no_farther : List ℕ → List ℕ → Bool
  no_farther a b = nat_le (edits text a) (edits text b)

  -- the nearest of these words, found one by one
  abbrev pub found_in : List (List ℕ) → Option (List ℕ)
  found_in words = best no_farther (near_words text words)

  -- of two the nearer
  abbrev pub nearer : Option (List ℕ) → Option (List ℕ) → Option (List ℕ)
  nearer a b = better no_farther a b

  abbrev pub fewest_of : Option (List ℕ) → ℕ
  fewest_of None = 3
  fewest_of (Some word) = edits text word

  nothing_more : (a : Option (List ℕ)) → nearer a None ≡ a
  nothing_more None = refl
  nothing_more (Some k) = refl

  -- what is found one by one is the first of the nearest
  near_found : (a : Option (List ℕ)) (words : List (List ℕ)) → nearer a None ≡ found_in words → a ≡ nearest text words
  unfolding nearest
  near_found a words e =
      sym (nothing_more a) ∙ e
      ∙ sym (firsts.first-best no_farther (λ a. le_same (edits text a)) (λ a b c. le_both (edits text a) (edits text b) (edits text c))
      (λ a b c. le_none (edits text a) (edits text b) (edits text c)) (near_words text words))

  -- so it is when all words were looked at
  pub near_done : {X : Type 0} (a : Option (List ℕ)) (now : X → List ℕ) (words : List X) (i : ℕ) → length words ≤ i
      → nearer a (found_in (map now (drop i words))) ≡ found_in (map now words) → a ≡ nearest text (map now words)
  near_done a now words i h e = near_found a (map now words) (ap (λ left. nearer a (found_in (map now left))) (sym (drop_all i words h)) ∙ e)
