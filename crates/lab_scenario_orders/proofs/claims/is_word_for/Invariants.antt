use Rattle.std.proofs.Common.{◌≡◌, drop, map}
use Rattle.lab_scenario_orders.specs.Claims.{is_word_for}
use Rattle.lab_scenario_orders.proofs.claims.is_word_for.Given as goal

abbrev pub invariant-loop-word : goal.invariant-loop-word
invariant-loop-word l = is_word_for (map (λ word. word.now) (drop l.word-index l.words)) l.known ≡ is_word_for (map (λ word. word.now) l.words) l.known
