use Rattle.std.proofs.Common.{◌≡◌, ◌++◌, drop}
use Rattle.lab_lines.specs.Lines.{left_words, words_of}
use Rattle.lab_lines.proofs.places.words_in.Given as goal

abbrev pub invariant-loop-at : goal.invariant-loop-at
invariant-loop-at l = l.words.items ++ left_words l.begun l.at (drop l.at l.line) ≡ words_of l.line
