use Rattle.std.proofs.Common.{◌≡◌, ◌≤◌, ◌+◌, ◌==◌, drop}
use Rattle.std.specs.List.{slice_split}
use Rattle.lab_faults.specs.Told.{place_behind}
use Rattle.lab_faults.proofs.found.place_of.Given as goal

abbrev pub invariant-loop-byte : goal.invariant-loop-byte
invariant-loop-byte l = record {
  place : place_behind l.place.line l.place.column (slice_split (λ c. c == 10) (drop l.byte-index l.before)) ≡ place_behind 1 1 (slice_split (λ c. c == 10) l.before);
  line : l.place.line ≤ l.byte-index + 1;
  column : l.place.column ≤ l.byte-index + 1;
}
