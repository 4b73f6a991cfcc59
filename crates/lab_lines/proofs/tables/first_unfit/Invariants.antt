use Rattle.std.proofs.Common.{◌≡◌, drop}
use Rattle.std.specs.Prelude.{find}
use Rattle.lab_lines.specs.Tables.{is_unfit}
use Rattle.lab_lines.proofs.tables.first_unfit.Given as goal

abbrev pub invariant-loop-item : goal.invariant-loop-item
invariant-loop-item l = find (is_unfit l.text) (drop l.item-index l.keys) ≡ find (is_unfit l.text) l.keys
