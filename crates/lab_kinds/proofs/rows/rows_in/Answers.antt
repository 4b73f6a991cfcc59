use Rattle.lab_kinds.proofs.RowLaws.{counts_on, rows_on}
use Rattle.lab_kinds.proofs.rows.rows_in.Goals as goal

pub loop-index-preserved : goal.loop-index-preserved
loop-index-preserved c =
    let kept = c.loop-index.invariant in
    let counts = counts_on c.loop-index.braces c.behind_piece-braces.result _ _ c.loop-index.index c.behind_piece-braces.ensures kept.depth kept.row in
    record {
      rows = rows_on _ _ _ c.loop-index-test.true _ _ _ _ _ _ c.kind_at-next.ensures c.in_ok-note_row.ensures c.behind_piece-braces.ensures kept.rows;
      depth = counts.0;
      row = counts.1;
    }
