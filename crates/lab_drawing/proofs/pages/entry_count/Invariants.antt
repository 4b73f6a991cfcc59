use Rattle.std.proofs.Common.{◌≡◌, ◌≤◌, ◌+◌, drop, count_by}
use Rattle.lab_drawing.specs.Marks.{is_entry}
use Rattle.lab_drawing.proofs.pages.entry_count.Given as goal

abbrev pub invariant-loop-mark : goal.invariant-loop-mark
invariant-loop-mark l = record {
  rest : l.count + count_by is_entry (drop l.mark-index l.marks) ≡ count_by is_entry l.marks;
  few : l.count ≤ l.mark-index;
}
