-- The result where nothing is found in a text's parts.
use Rattle.std.proofs.Common.{◌≡◌, ℕ, Bool, true, false, MatchBool, List, [], ◌∷◌, map, refl, subst}
use Rattle.lab_faults.specs.Told.{Told, fault_told}
use Rattle.lab_faults.specs.declared.found.Found.{Found}
use Rattle.lab_kinds.specs.Asking.{AskedLast}
use Rattle.lab_kinds.specs.Orders.{Behind, PartedTells, StepsTell, TextTells, is_of_steps}
use Rattle.lab_kinds.specs.Reports.{is_some_found}

pub behind_some : (text : List ℕ) (of_steps : Bool) (found : List Found) → is_some_found found ≡ true → Behind text of_steps (map fault_told found) (map fault_told found)
behind_some text of_steps [] is = cc
behind_some text of_steps (one ∷ rest) is = refl

pub behind_steps : (text : List ℕ) (of_steps : Bool) (found : List Found) → of_steps ≡ true → Behind text of_steps (map fault_told found) (map fault_told found)
behind_steps text true [] is = refl
behind_steps text false [] is = cc
behind_steps text of_steps (one ∷ rest) is = refl

pub behind_none : (text : List ℕ) (of_steps : Bool) (found : List Found) (faults : List Told) → is_some_found found ≡ false → of_steps ≡ false → AskedLast text faults → Behind text of_steps (map fault_told found) faults
behind_none text true [] faults none is last = cc
behind_none text false [] faults none is last = last
behind_none text of_steps (one ∷ rest) faults none is last = cc

pub parted : (text bytes scenario plain : List ℕ) (setup : ℕ) (asked own : List ℕ) (steps : Bool) (found faults : List Told) → bytes ≡ text → steps ≡ is_of_steps scenario
    → MatchBool steps (StepsTell bytes plain setup asked own found) (TextTells bytes scenario setup asked found) → Behind text steps found faults
    → PartedTells text scenario plain setup asked own faults
parted text bytes scenario plain setup asked own steps found faults at is parts behind =
    let here = subst (λ (t : List ℕ). MatchBool steps (StepsTell t plain setup asked own found) (TextTells t scenario setup asked found)) at parts in
    record {
      found = found;
      parts = subst (λ (b : Bool). MatchBool b (StepsTell text plain setup asked own found) (TextTells text scenario setup asked found)) is here;
      behind = subst (λ (b : Bool). Behind text b found faults) is behind;
    }
