use Rattle.std.proofs.Common.{◌≡◌, drop}
use Rattle.lab_warnings.specs.Warnings.{last_begun}
use Rattle.lab_warnings.proofs.ends.begun_at.Given as goal

abbrev pub invariant-loop-i : goal.invariant-loop-i
invariant-loop-i l = last_begun l.thread.0 l.found l.i (drop l.i l.entries) ≡ last_begun l.thread.0 0 0 l.entries
