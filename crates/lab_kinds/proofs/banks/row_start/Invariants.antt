use Rattle.std.proofs.Common.{◌≡◌, drop}
use Rattle.lab_kinds.specs.Banks as banks
use Rattle.lab_kinds.proofs.banks.row_start.Given as goal

abbrev pub invariant-loop-index : goal.invariant-loop-index
invariant-loop-index l = banks.row_start l.from l.end l.row (drop l.index l.rows) (drop l.index l.items) ≡ banks.row_start l.from l.end l.row l.rows l.items
