-- The words about the first step that is not answered as expected.
use Rattle.std.proofs.Common.{◌≡◌, List, Option, Some, None, Result, IfOk, find, refl, subst}
use Rattle.evl_scenario.specs.declared.steps.Step.{Step}
use Rattle.lab_traces.specs.Entries.{EntryParts}
use Rattle.lab_lines.specs.Met.{JudgesBy, JudgesMet, TellsNever, TellsUnmet, is_unmet}
use Rattle.lab_lines.specs.declared.met.Unexpected.{Unexpected}
use Rattle.lab_lines.specs.declared.tables.Expected.{Expected}

-- one that is answered otherwise, and none
pub met_told : (entries : List EntryParts) (found : Option Expected) (e : Expected) (told : Unexpected) → Some e ≡ found → TellsUnmet entries e told
    → JudgesMet entries found (Some told)
met_told entries found e told is h = subst (λ (o : Option Expected). JudgesMet entries o (Some told)) is h

pub met_none : (entries : List EntryParts) (found : Option Expected) → None ≡ found → JudgesMet entries found None
met_none entries found is = subst (λ (o : Option Expected). JudgesMet entries o None) is refl

-- one that can never be, and none
pub never_told : (steps : List Step) (entries : List EntryParts) (expected : List Expected) (found : Option Expected) (e : Expected) (told : Unexpected)
    → Some e ≡ found → TellsNever steps e told → JudgesBy steps entries expected found (Some told)
never_told steps entries expected found e told is h = subst (λ (o : Option Expected). JudgesBy steps entries expected o (Some told)) is h

pub never_none : (E : Type 0) (steps : List Step) (entries : List EntryParts) (expected : List Expected) (found : Option Expected) (r : Result (Option Unexpected) E)
    → None ≡ found → IfOk r (JudgesMet entries (find (is_unmet entries) expected)) → IfOk r (JudgesBy steps entries expected found)
never_none E steps entries expected found r is h = subst (λ (o : Option Expected). IfOk r (JudgesBy steps entries expected o)) is h

-- the entries of the one are those of the other
pub met_as : (E : Type 0) (xs ys : List EntryParts) (expected : List Expected) (r : Result (Option Unexpected) E) → xs ≡ ys
    → IfOk r (JudgesMet xs (find (is_unmet xs) expected)) → IfOk r (JudgesMet ys (find (is_unmet ys) expected))
met_as E xs ys expected r is h = subst (λ (zs : List EntryParts). IfOk r (JudgesMet zs (find (is_unmet zs) expected))) is h
