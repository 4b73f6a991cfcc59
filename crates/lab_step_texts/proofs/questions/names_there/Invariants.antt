use Rattle.std.proofs.Common.{◌≡◌, drop}
use Rattle.std.specs.List.{list_all}
use Rattle.lab_step_texts.specs.Questions.{is_there}
use Rattle.lab_step_texts.proofs.questions.names_there.Given as goal

abbrev pub invariant-loop-claim : goal.invariant-loop-claim
invariant-loop-claim l = list_all (λ claim. is_there l.board claim.fact) (drop l.claim-index l.watch.claims.items) ≡ list_all (λ claim. is_there l.board claim.fact) l.watch.claims.items
