use Rattle.std.proofs.Common.{◌≡◌, ◌++◌, drop, flat_map, map}
use Rattle.lab_lines.specs.Boards.{kind_item}
use Rattle.lab_lines.proofs.lists.put_all_kinds.Given as goal

abbrev pub invariant-loop-piece : goal.invariant-loop-piece
invariant-loop-piece l =
    l.text.items ++ flat_map kind_item (map (λ piece. piece.now) (drop l.piece-index l.pieces)) ≡ l.initial.text.items ++ flat_map kind_item (map (λ piece. piece.now) l.pieces)
