use Rattle.std.proofs.Common.{◌≡◌, ◌≤◌, ◌++◌, length, drop}
use Rattle.evl_plans.proofs.made.copied_rows.Given as goal

abbrev pub invariant-loop-row : goal.invariant-loop-row
invariant-loop-row l = (length l.copied.items ≤ l.row-index) × (l.copied.items ++ drop l.row-index l.rows ≡ l.rows)
