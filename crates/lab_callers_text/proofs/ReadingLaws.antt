-- The steps of callers, made of marks and steps.
use Rattle.std.proofs.Common.{◌≡◌, List, [], ◌∷◌, ◌++◌, length, refl, sym, ◌∙◌, ap, append-nil, arith}
use Rattle.std.specs.Prelude.{Option}
use Rattle.lab_callers_text.specs.Readings.{steps_as}
use Rattle.lab_callers_text.specs.declared.acts.CallersStep.{CallersStep}
use Rattle.lab_callers_text.specs.declared.marks.Mark.{Mark}
use Rattle.evl_scenario.specs.declared.steps.Step.{Step}

-- where no step is left, none is to be made
no_steps : (marks : List (Option Mark)) → steps_as marks [] ≡ []
no_steps [] = refl
no_steps (mark ∷ marks) = refl

-- so once the marks are at their end, all are made
pub marks_end : (all wanted : List CallersStep) (marks : List (Option Mark)) (steps : List Step) → length marks ≡ 0 → all ++ steps_as marks steps ≡ wanted → all ≡ wanted
marks_end all wanted [] steps none is = sym (append-nil all) ∙ is
marks_end all wanted (mark ∷ marks) steps none is = absurd (omega (arith, none))

-- and once the steps are
pub steps_end : (all wanted : List CallersStep) (marks : List (Option Mark)) (steps : List Step) → length steps ≡ 0 → all ++ steps_as marks steps ≡ wanted → all ≡ wanted
steps_end all wanted marks [] none is = sym (append-nil all) ∙ (ap (λ (rest : List CallersStep). all ++ rest) (sym (no_steps marks)) ∙ is)
steps_end all wanted marks (step ∷ steps) none is = absurd (omega (arith, none))
