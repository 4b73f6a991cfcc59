use Rattle.std.proofs.Common.{◌≡◌, ◌≤◌, ◌++◌, drop}
use Rattle.lab_kinds.specs.Banks.{rows_from}
use Rattle.lab_kinds.proofs.rows.rows_in.Given as goal

abbrev pub invariant-loop-index : goal.invariant-loop-index
invariant-loop-index l = record {
  rows : l.rows.items ++ rows_from l.braces (drop l.index l.pieces) ≡ rows_from (record { depth = 0; row = 0 }) l.pieces;
  depth : l.braces.depth ≤ l.index;
  row : l.braces.row ≤ l.index;
}
