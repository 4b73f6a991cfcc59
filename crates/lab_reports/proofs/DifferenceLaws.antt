-- The place where two lists of lines differ, one line after the other.
use Rattle.std.proofs.Common.{arith, ◌≡◌, ℕ, ◌+◌, ◌-◌, ◌<◌, ◌≤◌, false, List, [], ◌∷◌, ◌++◌, append-nil, append_assoc, None, drop, take, length, map, option_map, slice_get, zero, suc, refl, ap, ap₂, sym, ◌∙◌}
use Rattle.std.proofs.Math.Seq.{take-nil}
use Rattle.std.proofs.lemmas.List.{drop_all, length-append, length-map, map-append}
use Rattle.lab_reports.specs.Differences.{Apart, Notes, apart_at, are_alike, differing, told_apart}
use Rattle.lab_reports.specs.declared.differences.Difference.{Difference}

-- ---- at an index, and after it

only_made : (n i : ℕ) (made : List (List ℕ)) → differing n [] (drop i made) ≡ apart_at n None (slice_get made i) ++ differing (n + 1) [] (drop (suc i) made)
only_made n zero [] = refl
only_made n zero (m ∷ made) = refl
only_made n (suc i) [] = refl
only_made n (suc i) (m ∷ made) = only_made n i made

only_stored : (n i : ℕ) (stored : List (List ℕ)) → differing n (drop i stored) [] ≡ apart_at n (slice_get stored i) None ++ differing (n + 1) (drop (suc i) stored) []
only_stored n zero [] = refl
only_stored n zero (s ∷ stored) = refl
only_stored n (suc i) [] = refl
only_stored n (suc i) (s ∷ stored) = only_stored n i stored

differing_on : (n i : ℕ) (stored made : List (List ℕ))
    → differing n (drop i stored) (drop i made) ≡ apart_at n (slice_get stored i) (slice_get made i) ++ differing (n + 1) (drop (suc i) stored) (drop (suc i) made)
differing_on n zero [] [] = refl
differing_on n zero (s ∷ stored) [] = refl
differing_on n zero [] (m ∷ made) = refl
differing_on n zero (s ∷ stored) (m ∷ made) = refl
differing_on n (suc i) [] [] = refl
differing_on n (suc i) (s ∷ stored) [] = only_stored n i stored
differing_on n (suc i) [] (m ∷ made) = only_made n i made
differing_on n (suc i) (s ∷ stored) (m ∷ made) = differing_on n i stored made

pub differing_at : (n i : ℕ) (stored made : List (List ℕ))
    → differing n (drop i stored) (drop i made) ≡ apart_at n (slice_get stored i) (slice_get made i) ++ differing (n + 1) (drop (i + 1) stored) (drop (i + 1) made)
differing_at n i stored made =
    let next : suc i ≡ i + 1 = omega arith in
    differing_on n i stored made
    ∙ ap (λ (k : ℕ). apart_at n (slice_get stored i) (slice_get made i) ++ differing (n + 1) (drop k stored) (drop k made)) next

-- ---- what is noted

-- one more than these, where there is room for it
next_taken : (most n m : ℕ) (x : Apart) (rest : List Apart) → n < most → m ≡ n + 1 → x ∷ take (most - m) rest ≡ take (most - n) (x ∷ rest)
next_taken most n m x rest room more =
    let one : most - n ≡ suc (most - m) = omega (arith, room, more) in
    rw one refl

pub noted_one : (most : ℕ) (items now : List Difference) (d : Difference) → now ≡ items ++ d ∷ [] → length items < most
    → are_alike (option_map (λ line. line.now) d.stored) (option_map (λ line. line.now) d.made) ≡ false
    → (rest : List Apart) → Notes most (map told_apart items) (map told_apart now) (told_apart d) rest
noted_one most items now d more room apart rest =
    let noted = map told_apart items in
    let here = told_apart d in
    let all : map told_apart now ≡ noted ++ here ∷ [] = ap (map told_apart) more ∙ map-append told_apart items (d ∷ []) in
    let few : length noted ≡ length items = length-map items told_apart in
    let count : length (noted ++ here ∷ []) ≡ length noted + 1 = length-append noted (here ∷ []) in
    let taken = next_taken most (length noted) (length (noted ++ here ∷ [])) here rest (omega (arith, room, few)) count in
    rw (all, apart) (append_assoc noted (here ∷ []) (take (most - length (noted ++ here ∷ [])) rest) ∙ ap (λ (l : List Apart). noted ++ l) taken)

module _ (most : ℕ) (old new : List (List ℕ)) where
  -- these are noted of the lines up to an index, and the rest is still to come
  abbrev pub AreNoted : ℕ → List Apart → Type 0
  AreNoted i noted = noted ++ take (most - length noted) (differing (i + 1) (drop i old) (drop i new)) ≡ take most (differing 1 old new)

  pub noted_more : (i : ℕ) (noted now : List Apart) (here : Apart) → here ≡ (i + 1, slice_get old i, slice_get new i) → ((rest : List Apart) → Notes most noted now here rest)
      → AreNoted i noted → AreNoted (i + 1) now
  noted_more i noted now here is notes are =
      let rest = differing (i + 1 + 1) (drop (i + 1) old) (drop (i + 1) new) in
      let stand : apart_at here.0 here.1 here.2 ≡ apart_at (i + 1) (slice_get old i) (slice_get new i) = ap (λ (x : Apart). apart_at x.0 x.1 x.2) is in
      notes rest ∙ ap (λ (l : List Apart). noted ++ take (most - length noted) (l ++ rest)) stand
      ∙ ap (λ (l : List Apart). noted ++ take (most - length noted) l) (sym (differing_at (i + 1) i old new)) ∙ are

  pub noted_all : (i : ℕ) (noted : List Apart) → length old ≤ i → length new ≤ i → AreNoted i noted → noted ≡ take most (differing 1 old new)
  noted_all i noted o n are =
      let none : differing (i + 1) (drop i old) (drop i new) ≡ [] = ap₂ (differing (i + 1)) (drop_all i old o) (drop_all i new n) in
      let nothing : take (most - length noted) (differing (i + 1) (drop i old) (drop i new)) ≡ [] = ap (take (most - length noted)) none ∙ take-nil (most - length noted) in
      sym (ap (λ (l : List Apart). noted ++ l) nothing ∙ append-nil noted) ∙ are
