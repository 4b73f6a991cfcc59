-- Faults that were found, and whether a scenario can be read.
use Rattle.std.proofs.Common.{◌≡◌, true, List, [], ◌∷◌, length, map, Result, Ok, Err, IfOk, refl, arith}
use Rattle.std.specs.Prelude.{is_err, is_ok}
use Rattle.evl_scenario.specs.Scenarios.{Script}
use Rattle.evl_scenario.specs.declared.faults.Fault.{Fault}
use Rattle.lab_faults.specs.Faults.{first_fault, refusal_in}
use Rattle.lab_faults.specs.Told.{Told, fault_told}
use Rattle.lab_faults.specs.declared.found.Found.{Found}
use Rattle.lab_kinds.specs.Reports.{is_some_found}

pub judged : (found : List Found) (r : Result Script Fault) → first_fault found ≡ refusal_in r → is_some_found found ≡ is_err r
judged [] (Ok script) e = refl
judged [] (Err fault) e = cc
judged (one ∷ rest) (Ok script) e = cc
judged (one ∷ rest) (Err fault) e = refl

-- of a scenario none is found
pub none_of : (found : List Found) (r : Result Script Fault) → first_fault found ≡ refusal_in r → is_ok r ≡ true → map fault_told found ≡ []
none_of [] r e is = refl
none_of (one ∷ rest) (Ok script) e is = cc
none_of (one ∷ rest) (Err fault) e is = cc

-- where none was found it is one
pub none_found : (found : List Found) (r : Result Script Fault) (fault : Fault) → length found ≡ 0 → first_fault found ≡ refusal_in r → r ≡ Err fault → ⊥
none_found [] (Ok script) fault none e is = cc
none_found [] (Err other) fault none e is = cc
none_found (one ∷ rest) r fault none e is = omega (arith, none)

-- where one was found it is none
pub some_found : (found : List Found) (r : Result Script Fault) → (length found ≡ 0 → ⊥) → first_fault found ≡ refusal_in r → is_ok r ≡ true → ⊥
some_found [] r some e is = some refl
some_found (one ∷ rest) (Ok script) some e is = cc
some_found (one ∷ rest) (Err fault) some e is = cc

-- what is known of what there is
pub if_ok : {T E : Type 0} (r : Result T E) (P Q : T → Type 0) → ((x : T) → P x → Q x) → IfOk r P → IfOk r Q
if_ok (Ok x) P Q f p = f x p
if_ok (Err e) P Q f p = tt
