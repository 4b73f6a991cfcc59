use Rattle.std.proofs.Common.{◌≡◌, ◌++◌, drop, string_bytes}
use Rattle.lab_warnings.specs.Warnings.{row_lines}
use Rattle.lab_warnings.proofs.actions.warn_of_rows.Given as goal

abbrev pub invariant-loop-row : goal.invariant-loop-row
invariant-loop-row l =
    string_bytes l.told ++ row_lines l.name l.counts l.number l.callback (drop l.row-index l.rows) ≡ string_bytes l.initial.told ++ row_lines l.name l.counts l.number l.callback l.rows
