-- Lines without blanks at their ends.
use Rattle.std.proofs.Common.{◌≡◌, ◌∙◌, ◌<◌, ◌≤◌, ◌+◌, ◌++◌, ℕ, Bool, true, false, List, [], ◌∷◌, length, take, get_or, if◌then◌else◌, refl, sym, ap, arith}
use Rattle.std.proofs.lemmas.List.{take_more}
use Rattle.lab_live.specs.Answers.{is_blank, kept_before, trimmed}

kept_long : (c d : ℕ) (xs : List ℕ) → kept_before c (xs ++ d ∷ []) ≡ c ∷ (xs ++ d ∷ [])
kept_long c d [] = refl
kept_long c d (x ∷ xs) = refl

-- one byte more, which is a blank or isn't
by_blank : (b : Bool) (c x : ℕ) (xs : List ℕ) → kept_before x (if b then trimmed xs else xs ++ c ∷ []) ≡ (if b then trimmed (x ∷ xs) else x ∷ (xs ++ c ∷ []))
by_blank true c x xs = refl
by_blank false c x xs = kept_long x c xs

one_more : (c : ℕ) (xs : List ℕ) → trimmed (xs ++ c ∷ []) ≡ (if is_blank c then trimmed xs else xs ++ c ∷ [])
one_more c [] = refl
one_more c (x ∷ xs) = ap (kept_before x) (one_more c xs) ∙ by_blank (is_blank c) c x xs

-- so the bytes up to the last that is no blank stay
module _ (line : List ℕ) (at end : ℕ) (less : at < length line) (kept : trimmed (take at line) ≡ take end line) where
  by_test : (b : Bool) → (if b then trimmed (take at line) else take (at + 1) line) ≡ take (if b then end else at + 1) line
  by_test true = kept
  by_test false = refl

  pub kept_on : (now : ℕ) → now ≡ (if is_blank (get_or line at 0) then end else at + 1) → trimmed (take (at + 1) line) ≡ take now line
  kept_on now is =
      let cut = take_more line at 0 less in
      ap trimmed cut
      ∙ one_more (get_or line at 0) (take at line)
      ∙ ap (λ (xs : List ℕ). if is_blank (get_or line at 0) then trimmed (take at line) else xs) (sym cut)
      ∙ by_test (is_blank (get_or line at 0))
      ∙ ap (λ (n : ℕ). take n line) (sym is)

  pub within_on : (now : ℕ) → now ≡ (if is_blank (get_or line at 0) then end else at + 1) → end ≤ at → now ≤ at + 1
  within_on now is few = by (is_blank (get_or line at 0)) is
    where
      by : (b : Bool) → now ≡ (if b then end else at + 1) → now ≤ at + 1
      by true e = omega (arith, e, few)
      by false e = omega (arith, e)
