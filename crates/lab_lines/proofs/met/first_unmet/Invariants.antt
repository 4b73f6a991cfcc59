use Rattle.std.proofs.Common.{◌≡◌, drop, map}
use Rattle.std.specs.Prelude.{find}
use Rattle.lab_traces.specs.Says.{parts_of}
use Rattle.lab_lines.specs.Met.{is_unmet}
use Rattle.lab_lines.proofs.met.first_unmet.Given as goal

abbrev pub invariant-loop-one : goal.invariant-loop-one
invariant-loop-one l =
    find (is_unmet (map parts_of l.entries)) (drop l.one-index l.expected) ≡ find (is_unmet (map parts_of l.entries)) l.expected
