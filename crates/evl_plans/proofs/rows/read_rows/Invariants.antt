use Rattle.std.proofs.Common.{◌≡◌, ◌≤◌, ◌+◌, length, drop}
use Rattle.toml.specs.View.{items_view}
use Rattle.evl_plans.specs.Banks.{rows_from}
use Rattle.evl_plans.proofs.RowLaws.{after_rows}
use Rattle.evl_plans.proofs.rows.read_rows.Given as goal

abbrev pub invariant-loop-i : goal.invariant-loop-i
invariant-loop-i l = record {
  rest : after_rows l.rows.items (rows_from (l.i + 1) (items_view (drop l.i l.values))) ≡ rows_from 1 (items_view l.values);
  few : length l.rows.items ≤ l.i;
}
