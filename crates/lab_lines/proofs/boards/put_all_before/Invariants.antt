use Rattle.std.proofs.Common.{◌≡◌, ◌++◌, flat_map, take}
use Rattle.lab_lines.specs.Boards.{before_board}
use Rattle.lab_lines.proofs.boards.put_all_before.Given as goal

abbrev pub invariant-loop-pair : goal.invariant-loop-pair
invariant-loop-pair l = l.text.items ≡ l.initial.text.items ++ flat_map (before_board l.line) (take l.pair-index l.pairs)
