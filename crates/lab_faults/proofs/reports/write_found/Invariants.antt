use Rattle.std.proofs.Common.{◌≡◌, ◌++◌, drop}
use Rattle.std.specs.Prelude.{string_bytes}
use Rattle.lab_faults.specs.Faults.{found_lines}
use Rattle.lab_faults.proofs.reports.write_found.Given as goal

abbrev pub invariant-loop-one : goal.invariant-loop-one
invariant-loop-one l = string_bytes l.report ++ found_lines l.name (drop l.one-index l.found) ≡ string_bytes l.initial.report ++ found_lines l.name l.found
