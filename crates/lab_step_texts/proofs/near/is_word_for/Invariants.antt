use Rattle.std.proofs.Common.{◌≡◌, drop, map}
use Rattle.lab_step_texts.specs.Near.{is_word_for}
use Rattle.lab_step_texts.proofs.near.is_word_for.Given as goal

abbrev pub invariant-loop-word : goal.invariant-loop-word
invariant-loop-word l = is_word_for (map (λ word. word.now) (drop l.word-index l.words)) l.known ≡ is_word_for (map (λ word. word.now) l.words) l.known
