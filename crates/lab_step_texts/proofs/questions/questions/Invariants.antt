use Rattle.std.proofs.Common.{◌≡◌, ◌++◌, All, drop, map}
use Rattle.std.specs.Prelude.{string_bytes}
use Rattle.lab_step_texts.specs.Questions.{IsOne}
use Rattle.lab_step_texts.proofs.questions.questions.Given as goal

abbrev pub invariant-loop-i : goal.invariant-loop-i
invariant-loop-i l = record {
  texts : map (λ watch. string_bytes watch.text) l.watches.items ++ map (λ one. one.now) (drop l.i l.texts) ≡ map (λ one. one.now) l.texts;
  are : All (IsOne l.when) l.watches.items;
}
