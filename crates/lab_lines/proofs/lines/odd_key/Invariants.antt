use Rattle.std.proofs.Common.{◌≡◌, drop}
use Rattle.lab_lines.specs.Lines as lines
use Rattle.lab_lines.proofs.lines.odd_key.Given as goal

abbrev pub invariant-loop-pair : goal.invariant-loop-pair
invariant-loop-pair l = lines.odd_key l.line (drop l.pair-index l.pairs) ≡ lines.odd_key l.line l.pairs
