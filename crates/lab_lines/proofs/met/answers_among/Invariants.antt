use Rattle.std.proofs.Common.{◌≡◌, ◌++◌, drop, map}
use Rattle.std.specs.Prelude.{filter}
use Rattle.lab_lines.specs.Met.{can_be}
use Rattle.lab_lines.proofs.met.answers_among.Given as goal

abbrev pub invariant-loop-word : goal.invariant-loop-word
invariant-loop-word l =
    map (λ word. word.now) l.all.items ++ filter (can_be l.call) (map (λ word. word.now) (drop l.word-index l.words)) ≡ filter (can_be l.call) (map (λ word. word.now) l.words)
