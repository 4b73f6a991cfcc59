use Rattle.std.proofs.Common.{◌≡◌, ◌++◌, flat_map, take}
use Rattle.lab_lines.specs.Boards.{in_board}
use Rattle.lab_lines.proofs.boards.put_all_in.Given as goal

abbrev pub invariant-loop-pair : goal.invariant-loop-pair
invariant-loop-pair l = l.text.items ≡ l.initial.text.items ++ flat_map (in_board l.line) (take l.pair-index l.pairs)
