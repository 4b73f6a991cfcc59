use Rattle.std.proofs.Common.{◌≡◌, ◌∙◌, List, Some, ap, drop, subst, take}
use Rattle.std.specs.Prelude.{slice_get}
use Rattle.lab_callers_text.specs.declared.acts.CallersStep.{CallersStep}
use Rattle.lab_step_orders.specs.declared.crews.CrewCaller.{CrewCaller}
use Rattle.lab_step_texts.specs.Calls.{stage_in}
use Rattle.lab_step_texts.specs.Extras.{own_ways}
use Rattle.lab_step_texts.proofs.CrewLaws.{rest_whole}
use Rattle.lab_step_texts.proofs.crews.crew_with.Goals as goal

pub returns-in-Ok-clause-callers : goal.returns-in-Ok-clause-callers
returns-in-Ok-clause-callers c = λ k caller e.
    let count = c.args.count in
    let told = c.in_ok-callers.ensures.callers k caller (subst (λ (l : List CrewCaller). slice_get l k ≡ Some caller) (ap (λ v. v.items) c.in-Ok.ensures.callers) e) in
    let rest = rest_whole c.as_slice-2.result.now count ∙ ap (λ (l : List CallersStep). drop count l) c.as_slice-2.ensures.value in
    (told.0 ∙ ap (λ (l : List CallersStep). stage_in k (take count l)) c.as_slice.ensures.value, told.1, told.2 ∙ (λ i. own_ways k (c.as_slice-ways.ensures.value i) 0 (rest i)))
