-- All that was found, put together.
use Rattle.std.proofs.Common.{◌≡◌, ◌∙◌, List, [], ◌∷◌, ◌++◌, map, refl, ap}
use Rattle.lab_faults.specs.Checks.{first_told}
use Rattle.lab_faults.specs.Faults.{first_fault}
use Rattle.lab_faults.specs.Told.{Adds, Told, fault_told}
use Rattle.lab_faults.specs.declared.found.Finding.{Finding}
use Rattle.lab_faults.specs.declared.found.Found.{Found}

-- the first found
pub first : (old new : Finding) (faults : List Told) → old.found.items ≡ [] → Adds old new faults → map fault_told new.found.items ≡ faults
first old new faults e adds = adds.told ∙ ap (λ (before : List Found). map fault_told before ++ faults) e

-- and those after them
pub second : (old mid new : Finding) (some more : List Told) → old.found.items ≡ [] → Adds old mid some
    → map fault_told new.found.items ≡ map fault_told mid.found.items ++ more → map fault_told new.found.items ≡ some ++ more
second old mid new some more e adds then = then ∙ ap (λ (before : List Told). before ++ more) (first old mid some e adds)

pub first_same : (found : List Found) → first_told (map fault_told found) ≡ first_fault found
first_same [] = refl
first_same (one ∷ rest) = refl
