use Rattle.std.proofs.Common.{◌≡◌, ◌++◌, Some, drop, map}
use Rattle.lab_step_texts.specs.FactTexts.{claim_in}
use Rattle.lab_step_texts.specs.Questions.{has_strange}
use Rattle.lab_step_texts.proofs.questions.claims_of.Given as goal

abbrev pub invariant-loop-text : goal.invariant-loop-text
invariant-loop-text l = record {
  each : map (λ claim. Some claim) l.claims.items ++ map claim_in (map (λ one. one.now) (drop l.text-index l.texts)) ≡ map claim_in (map (λ one. one.now) l.texts);
  strange : has_strange (map (λ one. one.now) (drop l.text-index l.texts)) ≡ has_strange (map (λ one. one.now) l.texts);
}
