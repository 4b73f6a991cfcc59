use Rattle.std.proofs.Common.{◌≡◌, ◌++◌, drop}
use Rattle.lab_lines.specs.Tables.{blanked_from}
use Rattle.lab_lines.proofs.tables.without_expected.Given as goal

abbrev pub invariant-loop-item : goal.invariant-loop-item
invariant-loop-item l = l.out.items ++ blanked_from l.text l.at (drop l.item-index l.keys) ≡ blanked_from l.text 0 l.keys
