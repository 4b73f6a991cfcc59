use Rattle.std.proofs.Common.{◌≡◌, ◌++◌, ◌∙◌, List, ℕ, ap, codes, subst, sym}
use Rattle.std.proofs.lemmas.Bool.{false≢true}
use Rattle.std.proofs.lemmas.List.{append_cancel_left}
use Rattle.std.proofs.lemmas.Str.Pattern.{contains_text}
use Rattle.std.specs.Str.Iter.{HasSubslice}
use Rattle.lab_step_texts.proofs.QuestionLaws.{one_listed}
use Rattle.lab_step_texts.proofs.questions.listed.Goals as goal

pub returns-in_default-clause-none : goal.returns-in_default-clause-none
returns-in_default-clause-none c = λ texts is. c.in_default.ensures (texts ++ codes "\"]") is.written

pub returns-in_default-before-clause-none : goal.returns-in_default-before-clause-none
returns-in_default-before-clause-none c = λ texts is.
    c.in_default-before.ensures texts (append_cancel_left (codes "[\"") c.in-Some.quoted.now (texts ++ codes "\"]") (sym c.in-Some.ensures ∙ is.written))

pub returns-then-contains-clause-none : goal.returns-then-contains-clause-none
returns-then-contains-clause-none c = λ texts is.
    let there = (contains_text c.contains.result (codes "\"]") c.in-Some-before.texts.now c.contains.ensures.cases).0 c.if-contains.true in
    is.whole (subst (λ (l : List ℕ). HasSubslice l (codes "\"]")) (sym (one_listed c.args.value.now c.in-Some.quoted.now c.in-Some-before.texts.now texts c.in-Some.ensures c.in-Some-before.ensures is.written)) there)

pub returns-else-contains-clause-listed : goal.returns-else-contains-clause-listed
returns-else-contains-clause-listed c = record {
  written = c.in-Some.ensures ∙ ap (λ (l : List ℕ). codes "[\"" ++ l) c.in-Some-before.ensures;
  whole = λ there. false≢true (sym c.if-contains.false ∙ (contains_text c.contains.result (codes "\"]") c.in-Some-before.texts.now c.contains.ensures.cases).1 there);
}
