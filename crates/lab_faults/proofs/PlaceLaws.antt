-- The place after one more byte.
use Rattle.std.proofs.Common.{◌≡◌, ◌∙◌, ℕ, ◌+◌, ◌<◌, ◌==◌, true, false, List, [], ◌∷◌, drop, get_or, length, refl, sym, ap, add-one, drop-cons, arith}
use Rattle.std.specs.List.{onto_first, slice_split, count_by}
use Rattle.std.proofs.lemmas.List.Splits.{length-slice_split, slice_split-cons_no, slice_split-cons_yes}
use Rattle.lab_faults.specs.Told.{place_behind}
use Rattle.lab_faults.specs.declared.found.Place.{Place}

behind_cut : (line column n : ℕ) (parts : List (List ℕ)) → length parts ≡ n + 1 → place_behind line column ([] ∷ parts) ≡ place_behind (line + 1) 1 parts
behind_cut line column n [] e = absurd (omega (arith, e))
behind_cut line column n (part ∷ rest) e = refl

behind_onto : (line column c n : ℕ) (parts : List (List ℕ)) → length parts ≡ n + 1 → place_behind line column (onto_first c parts) ≡ place_behind line (column + 1) parts
behind_onto line column c n [] e = absurd (omega (arith, e))
behind_onto line column c n (part ∷ []) e = ap (λ (k : ℕ). record { line = line; column = k }) (omega arith)
behind_onto line column c n (part ∷ next ∷ rest) e = refl

behind_feed : (line column c : ℕ) (rest : List ℕ) → (c == 10) ≡ true
    → place_behind line column (slice_split (λ c. c == 10) (c ∷ rest)) ≡ place_behind (line + 1) 1 (slice_split (λ c. c == 10) rest)
behind_feed line column c rest e =
    ap (place_behind line column) (slice_split-cons_yes (λ c. c == 10) c rest e)
    ∙ behind_cut line column (count_by (λ c. c == 10) rest) (slice_split (λ c. c == 10) rest) (length-slice_split (λ c. c == 10) rest)

behind_other : (line column c : ℕ) (rest : List ℕ) → (c == 10) ≡ false
    → place_behind line column (slice_split (λ c. c == 10) (c ∷ rest)) ≡ place_behind line (column + 1) (slice_split (λ c. c == 10) rest)
behind_other line column c rest e =
    ap (place_behind line column) (slice_split-cons_no (λ c. c == 10) c rest e)
    ∙ behind_onto line column c (count_by (λ c. c == 10) rest) (slice_split (λ c. c == 10) rest) (length-slice_split (λ c. c == 10) rest)

module _ (line column i : ℕ) (s : List ℕ) (whole : Place) (h : i < length s) where
  cut : drop i s ≡ get_or s i 0 ∷ drop (i + 1) s
  cut = rw (add-one i) (drop-cons s i 0 h)

  pub fed : (get_or s i 0 == 10) ≡ true → place_behind line column (slice_split (λ c. c == 10) (drop i s)) ≡ whole
      → place_behind (line + 1) 1 (slice_split (λ c. c == 10) (drop (i + 1) s)) ≡ whole
  fed e was = sym (behind_feed line column (get_or s i 0) (drop (i + 1) s) e) ∙ ap (λ (l : List ℕ). place_behind line column (slice_split (λ c. c == 10) l)) (sym cut) ∙ was

  pub passed : (get_or s i 0 == 10) ≡ false → place_behind line column (slice_split (λ c. c == 10) (drop i s)) ≡ whole
      → place_behind line (column + 1) (slice_split (λ c. c == 10) (drop (i + 1) s)) ≡ whole
  passed e was = sym (behind_other line column (get_or s i 0) (drop (i + 1) s) e) ∙ ap (λ (l : List ℕ). place_behind line column (slice_split (λ c. c == 10) l)) (sym cut) ∙ was
