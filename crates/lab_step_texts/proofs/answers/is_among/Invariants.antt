use Rattle.std.proofs.Common.{◌≡◌, drop, map}
use Rattle.std.specs.List.{list_any}
use Rattle.std.specs.Str.{bytes_eq}
use Rattle.lab_step_texts.proofs.answers.is_among.Given as goal

abbrev pub invariant-loop-word : goal.invariant-loop-word
invariant-loop-word l = list_any (bytes_eq l.text) (map (λ word. word.now) (drop l.word-index l.words)) ≡ list_any (bytes_eq l.text) (map (λ word. word.now) l.words)
