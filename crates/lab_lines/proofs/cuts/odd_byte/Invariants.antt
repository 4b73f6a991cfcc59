use Rattle.std.proofs.Common.{◌≡◌, drop}
use Rattle.lab_lines.specs.Lines.{has_odd}
use Rattle.lab_lines.proofs.cuts.odd_byte.Given as goal

abbrev pub invariant-loop-word : goal.invariant-loop-word
invariant-loop-word l = has_odd l.line (drop l.word-index l.words) ≡ has_odd l.line l.words
