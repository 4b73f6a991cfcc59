use Rattle.std.proofs.Common.{◌≡◌, ◌++◌, flat_map, take}
use Rattle.lab_lines.specs.Lines.{pair_line_of}
use Rattle.lab_lines.proofs.small.put_pairs.Given as goal

abbrev pub invariant-loop-pair : goal.invariant-loop-pair
invariant-loop-pair l = l.text.items ≡ l.initial.text.items ++ flat_map (pair_line_of l.line) (take l.pair-index l.pairs)
