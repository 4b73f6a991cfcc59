use Rattle.std.proofs.Common.{◌≡◌, drop}
use Rattle.std.specs.Prelude.{find}
use Rattle.lab_lines.specs.Met.{is_impossible}
use Rattle.lab_lines.proofs.met.first_impossible.Given as goal

abbrev pub invariant-loop-one : goal.invariant-loop-one
invariant-loop-one l = find (is_impossible l.steps) (drop l.one-index l.expected) ≡ find (is_impossible l.steps) l.expected
