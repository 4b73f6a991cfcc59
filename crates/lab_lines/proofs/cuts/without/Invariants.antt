use Rattle.std.proofs.Common.{◌≡◌, ◌++◌, drop}
use Rattle.lab_lines.specs.Lines as lines
use Rattle.lab_lines.proofs.cuts.without.Given as goal

abbrev pub invariant-loop-byte : goal.invariant-loop-byte
invariant-loop-byte l = l.kept.items ++ lines.without l.first l.second (drop l.byte-index l.bytes) ≡ lines.without l.first l.second l.bytes
