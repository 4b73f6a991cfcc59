-- The faults of the steps of callers, run by run.
use Rattle.std.proofs.Common.{◌≡◌, ◌∙◌, ℕ, ◌<◌, List, [], ◌∷◌, ◌++◌, drop, flat_map, length, take, refl, sym, ap, append_assoc, arith}
use Rattle.std.proofs.lemmas.List.{append-nil}
use Rattle.lab_faults.specs.Steps.{run_length}
use Rattle.lab_faults.specs.Told.{Told}
use Rattle.lab_faults.specs.declared.items.Item.{Item}
use Rattle.lab_faults.proofs.RunLaws.{runs_cut}
use Rattle.lab_kinds.specs.Callers.{all_callers_step_faults, callers_step_faults}

-- those of the first run, and those after it
faults_on : (text : List ℕ) (items : List Item) → 0 < length items
    → all_callers_step_faults text items ≡ callers_step_faults text (take (run_length items) items) ++ all_callers_step_faults text (drop (run_length items) items)
unfolding all_callers_step_faults
faults_on text items h = ap (flat_map (callers_step_faults text)) (runs_cut items h)

no_faults : (text : List ℕ) → all_callers_step_faults text [] ≡ []
unfolding all_callers_step_faults
no_faults text = refl

module _ (now : List Told) (text : List ℕ) (items : List Item) (whole : List Told) where
  -- a run more was looked at
  pub one_run : (before : List Told) (own behind : List Item) (n : ℕ) → 0 < length items → n ≡ run_length items → own ≡ take n items → behind ≡ drop n items
      → now ≡ before ++ callers_step_faults text own → before ++ all_callers_step_faults text items ≡ whole → now ++ all_callers_step_faults text behind ≡ whole
  one_run before own behind n h count front back e was =
      rw (e, front, back, count)
      (append_assoc before _ _ ∙ ap (λ (faults : List Told). before ++ faults) (sym (faults_on text items h)) ∙ was)

-- all were
pub no_run : (now : List Told) (text : List ℕ) (items : List Item) (whole : List Told) → length items ≡ 0 → now ++ all_callers_step_faults text items ≡ whole → now ≡ whole
no_run now text [] whole h was = sym (append-nil now) ∙ ap (λ (faults : List Told). now ++ faults) (sym (no_faults text)) ∙ was
no_run now text (item ∷ rest) whole h was = absurd (omega (arith, h))
