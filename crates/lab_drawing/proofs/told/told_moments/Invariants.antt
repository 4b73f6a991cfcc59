use Rattle.std.proofs.Common.{◌≡◌, ◌+◌, ◌++◌, drop, length, map, count_by}
use Rattle.lab_drawing.specs.Marks.{is_entry}
use Rattle.lab_drawing.specs.Standings.{all_told, entry_lines, last_told, told_at, told_behind}
use Rattle.lab_drawing.proofs.told.told_moments.Given as goal

abbrev pub invariant-loop-mark : goal.invariant-loop-mark
invariant-loop-mark l = record {
  told : map told_at l.moments.items ++ told_behind (last_told (map told_at l.moments.items)) (entry_lines (drop l.mark-index l.marks)) ≡ all_told l.marks;
  count : length l.moments.items + count_by is_entry (drop l.mark-index l.marks) ≡ count_by is_entry l.marks;
}
