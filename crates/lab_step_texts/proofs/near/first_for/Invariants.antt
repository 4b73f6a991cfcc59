use Rattle.std.proofs.Common.{◌≡◌, drop, map}
use Rattle.std.specs.Prelude.{find}
use Rattle.lab_step_texts.specs.Near.{is_word_for}
use Rattle.lab_step_texts.proofs.near.first_for.Given as goal

abbrev pub invariant-loop-known : goal.invariant-loop-known
invariant-loop-known l =
    find (is_word_for (map (λ word. word.now) l.words)) (map (λ word. word.now) (drop l.known-index l.all)) ≡ find (is_word_for (map (λ word. word.now) l.words)) (map (λ word. word.now) l.all)
