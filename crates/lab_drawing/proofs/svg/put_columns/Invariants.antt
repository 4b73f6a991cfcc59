use Rattle.std.proofs.Common.{◌≡◌, [], count_by, take}
use Rattle.lab_drawing.specs.Marks.{is_entry}
use Rattle.lab_drawing.specs.Pictures.{entry_of, waits_of}
use Rattle.lab_drawing.specs.Shapes.{AddsSigns, signs_after}
use Rattle.lab_drawing.proofs.svg.put_columns.Given as goal

abbrev pub invariant-loop-column : goal.invariant-loop-column
invariant-loop-column l = record {
  waits : l.waits.items ≡ waits_of l.sheet.lanes.items (take l.column l.marks);
  entries : l.entries ≡ count_by is_entry (take l.column l.marks);
  entry : l.entry ≡ entry_of (take l.column l.marks);
  text : AddsSigns (signs_after l.sheet.lanes.items l.sheet.shows l.moments [] (take l.column l.marks)) l.initial.text.items l.text.items;
}
