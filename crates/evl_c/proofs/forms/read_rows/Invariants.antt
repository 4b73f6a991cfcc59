use Rattle.std.proofs.Common.{◌≡◌, ◌≤◌, ◌++◌, length, map, drop}
use Rattle.evl_c.specs.Forms.{period_of}
use Rattle.evl_c.proofs.forms.read_rows.Given as goal

abbrev pub invariant-loop-row : goal.invariant-loop-row
invariant-loop-row l =
    (length l.read.items ≤ l.row-index)
    × (l.read.items ++ map period_of (drop l.row-index l.rows) ≡ map period_of l.rows)
