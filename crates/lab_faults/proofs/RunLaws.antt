-- The runs of items, cut one by one.
use Rattle.std.proofs.Common.{◌≡◌, ◌∙◌, ℕ, ◌+◌, ◌==◌, ◌<◌, Bool, true, false, cond, List, [], ◌∷◌, ◌++◌, drop, flat_map, if◌then◌else◌, length, suc, take, refl, sym, ap, append_assoc, arith}
use Rattle.std.proofs.lemmas.List.{append-nil}
use Rattle.std.specs.List.{prefix_len}
use Rattle.std.proofs.lemmas.Bool.{eqb-true}
use Rattle.lab_faults.specs.Steps.{all_step_faults, is_beside, number_of, onto_run, run_faults, run_length, runs}
use Rattle.lab_faults.specs.Told.{Told}
use Rattle.lab_faults.specs.declared.items.Item.{Item}

-- an item beside one of two in the same step is beside the other
beside_both : (x y : Item) (rest : List Item) → is_beside x y ≡ true → prefix_len (is_beside y) rest ≡ prefix_len (is_beside x) rest
beside_both x y rest e = ap (λ (n : ℕ). prefix_len (λ (item : Item). number_of item.section == n) rest) (eqb-true (number_of y.section) (number_of x.section) e)

-- an item before the first run of those after it, or by itself
cut_by : (x y : Item) (rest : List Item) (n m : ℕ) (b : Bool) → (b ≡ true → m ≡ n) → (y ∷ take m rest) ∷ runs (drop m rest) ≡ runs (y ∷ rest)
    → (if b then (x ∷ y ∷ take m rest) ∷ runs (drop m rest) else (x ∷ []) ∷ (y ∷ take m rest) ∷ runs (drop m rest))
    ≡ (x ∷ take (cond b (1 + n) 0) (y ∷ rest)) ∷ runs (drop (cond b (1 + n) 0) (y ∷ rest))
cut_by x y rest n m true same is =
    let next : suc n ≡ 1 + n = omega arith in
    ap (λ (k : ℕ). (x ∷ y ∷ take k rest) ∷ runs (drop k rest)) (same refl)
    ∙ ap (λ (k : ℕ). (x ∷ take k (y ∷ rest)) ∷ runs (drop k (y ∷ rest))) next
cut_by x y rest n m false same is = ap (λ (all : List (List Item)). (x ∷ []) ∷ all) is

cut_first : (x : Item) (rest : List Item) → runs (x ∷ rest) ≡ (x ∷ take (prefix_len (is_beside x) rest) rest) ∷ runs (drop (prefix_len (is_beside x) rest) rest)
cut_first x [] = refl
cut_first x (y ∷ rest) =
    ap (onto_run x) (cut_first y rest)
    ∙ cut_by x y rest (prefix_len (is_beside x) rest) (prefix_len (is_beside y) rest) (is_beside x y) (beside_both x y rest) (sym (cut_first y rest))

-- the first run, and those after it
pub runs_cut : (items : List Item) → 0 < length items → runs items ≡ take (run_length items) items ∷ runs (drop (run_length items) items)
runs_cut [] h = absurd (omega (arith, h))
runs_cut (x ∷ rest) h =
    let next : suc (prefix_len (is_beside x) rest) ≡ 1 + prefix_len (is_beside x) rest = omega arith in
    cut_first x rest ∙ ap (λ (n : ℕ). take n (x ∷ rest) ∷ runs (drop n (x ∷ rest))) next

-- its faults, and theirs
faults_on : (text : List ℕ) (items : List Item) → 0 < length items
    → all_step_faults text items ≡ run_faults text (take (run_length items) items) ++ all_step_faults text (drop (run_length items) items)
unfolding all_step_faults
faults_on text items h = ap (flat_map (run_faults text)) (runs_cut items h)

no_faults : (text : List ℕ) → all_step_faults text [] ≡ []
unfolding all_step_faults
no_faults text = refl

module _ (now : List Told) (text : List ℕ) (items : List Item) (whole : List Told) where
  -- a run more was looked at
  pub one_run : (before : List Told) (own behind : List Item) (n : ℕ) → 0 < length items → n ≡ run_length items → own ≡ take n items → behind ≡ drop n items
      → now ≡ before ++ run_faults text own → before ++ all_step_faults text items ≡ whole → now ++ all_step_faults text behind ≡ whole
  one_run before own behind n h count front back e was =
      rw (e, front, back, count)
      (append_assoc before _ _ ∙ ap (λ (faults : List Told). before ++ faults) (sym (faults_on text items h)) ∙ was)

-- all were
pub no_run : (now : List Told) (text : List ℕ) (items : List Item) (whole : List Told) → length items ≡ 0 → now ++ all_step_faults text items ≡ whole → now ≡ whole
no_run now text [] whole h was = sym (append-nil now) ∙ ap (λ (faults : List Told). now ++ faults) (sym (no_faults text)) ∙ was
no_run now text (item ∷ rest) whole h was = absurd (omega (arith, h))
