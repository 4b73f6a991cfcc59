use Rattle.std.proofs.Common.{arith, ◌∙◌}
use Rattle.lab_drawing.proofs.PictureLaws.{entries_more, waits_more}
use Rattle.lab_drawing.proofs.ShapeLaws.{columns_more, entry_more}
use Rattle.lab_drawing.proofs.svg.put_columns.Goals as goal

pub loop-column-preserved : goal.loop-column-preserved
loop-column-preserved c = record {
  waits = waits_more c.args.sheet.now.lanes.items c.args.marks.now c.loop-column.column _ c.loop-column.waits.items _ _ _ (omega arith) c.loop-column.waits.ok.0 c.as_mut_slice.ensures.value c.note.ensures c.loop-column.invariant.waits;
  entries = entries_more c.args.marks.now c.loop-column.column _ c.loop-column.entries _ (omega arith) (omega arith) c.counted-entries.ensures c.loop-column.invariant.entries;
  entry = entry_more c.args.marks.now c.loop-column.column _ c.loop-column.entry _ (omega arith) c.entry_with-entry.ensures c.loop-column.invariant.entry;
  text = columns_more c.args.sheet.now.lanes.items c.args.sheet.now.shows c.args.moments.now c.args.marks.now c.loop-column.column _ c.counted-entries.result c.loop-column.entries _ _ _ _ _ _ _ _ (omega arith) (entry_more c.args.marks.now c.loop-column.column _ c.loop-column.entry _ (omega arith) c.entry_with-entry.ensures c.loop-column.invariant.entry) (c.as_slice-in-loop-column.ensures.value ∙ c.loop-column.invariant.waits) c.moment_after.ensures (entries_more c.args.marks.now c.loop-column.column _ c.loop-column.entries _ (omega arith) (omega arith) c.counted-entries.ensures c.loop-column.invariant.entries) c.moment_after-before.ensures c.loop-column.invariant.entries c.end_of.ensures c.loop-column.invariant.text c.in_ok-put_column.ensures;
}
