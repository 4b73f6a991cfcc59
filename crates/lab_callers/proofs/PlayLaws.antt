-- One step more after those that are made.
use Rattle.std.proofs.Common.{◌≡◌, ℕ, ◌+◌, List, [], ◌∷◌, ◌++◌, length, Result, Ok, Err, OnOk, refl, sym, ◌∙◌, ap, subst, arith, append_assoc, append-nil, length-append}
use Rattle.lab_callers.specs.Plays.{HaveMade, MakesAll, MakesStep, Run, ShowsAfter}
use Rattle.lab_callers.specs.declared.views.Shows.{Shows}
use Rattle.lab_callers_text.specs.declared.acts.CallersStep.{CallersStep}

module _ {C : Type 0} (limit : ℕ) where
  one_more : (start : Run C) (n : ℕ) (done : List CallersStep) (lines own : List ℕ) (mid now : Run C) (step : CallersStep)
      → MakesAll limit start n done lines mid → MakesStep limit mid (n + length done) step own now → MakesAll limit start n (done ++ step ∷ []) (lines ++ own) now
  one_more start n [] lines own mid now step (none, same) makes =
      let at_start = subst (λ (r : Run C). MakesStep limit r (n + 0) step own now) same makes in
      (now, own, [], subst (λ k. MakesStep limit start k step own now) (omega arith) at_start, (refl, refl), ap (λ (l : List ℕ). l ++ own) none ∙ sym (append-nil own))
  one_more start n (first ∷ rest) lines own mid now step (next, line, others, made, later, split) makes =
      let one = subst (λ k. MakesStep limit mid k step own now) (omega arith) makes in
      (next, line, others ++ own, made, one_more next (n + 1) rest others own mid now step later one, ap (λ (l : List ℕ). l ++ own) split ∙ append_assoc line others own)

  -- the next of those that are left is made too
  pub made_one_more : (start : Run C) (steps : List CallersStep) (before text : List ℕ) (mid : Run C) (number : ℕ) (step : CallersStep) (left : List CallersStep)
      (own later : List ℕ) (now : Run C) → HaveMade limit start steps before text mid number (step ∷ left) → MakesStep limit mid (number + 1) step own now → later ≡ text ++ own
      → HaveMade limit start steps before later now (number + 1) left
  made_one_more start steps before text mid number step left own later now h makes grown = record {
    done = h.done ++ step ∷ [];
    lines = h.lines ++ own;
    steps_are = h.steps_are ∙ sym (append_assoc h.done (step ∷ []) left);
    number_is = omega (arith, length-append h.done (step ∷ []), h.number_is);
    text_is = grown ∙ ap (λ (l : List ℕ). l ++ own) h.text_is ∙ append_assoc before h.lines own;
    made = one_more start 1 h.done h.lines own mid now step h.made (subst (λ k. MakesStep limit mid k step own now) (omega (arith, h.number_is)) makes);
  }

-- what is shown, and a text put in front of it
pub front_told : {C T E : Type 0} (old new : Run C) (who : ℕ) (answer : List ℕ) (shown : Shows) (before front mid whole : List ℕ) (r : Result T E) → mid ≡ before ++ front
    → OnOk r ((x : List ℕ) × ShowsAfter old who answer shown x new × (whole ≡ mid ++ x)) → OnOk r ((x : List ℕ) × ShowsAfter old who answer shown x new × (whole ≡ before ++ (front ++ x)))
front_told old new who answer shown before front mid whole (Ok u) is (x, after, text) = (x, after, text ∙ ap (λ (l : List ℕ). l ++ x) is ∙ simp append_assoc)
front_told old new who answer shown before front mid whole (Err e) is h = h

-- an answer, what is shown after it, and the plays below
pub told_behind : (before arrow answer shown feed plays first second third whole : List ℕ) → first ≡ before ++ (arrow ++ answer) → second ≡ first ++ shown → third ≡ second ++ feed
    → whole ≡ third ++ plays → whole ≡ before ++ (arrow ++ (answer ++ (shown ++ (feed ++ plays))))
told_behind before arrow answer shown feed plays first second third whole one two three four =
    four ∙ ap (λ (l : List ℕ). l ++ plays) (three ∙ ap (λ (l : List ℕ). l ++ feed) (two ∙ ap (λ (l : List ℕ). l ++ shown) one)) ∙ simp append_assoc
