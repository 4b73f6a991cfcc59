use Rattle.std.proofs.Common.{◌≡◌, drop}
use Rattle.lab_lines.specs.Lines.{pairs_of, with_rest}
use Rattle.lab_lines.proofs.places.pairs_in.Given as goal

abbrev pub invariant-loop-word : goal.invariant-loop-word
invariant-loop-word l = with_rest l.line l.pairs.items (drop l.word-index l.words) ≡ pairs_of l.line l.words
