use Rattle.std.proofs.Common.{◌≡◌, ◌≤◌, ◌+◌, drop}
use Rattle.lab_lines.specs.Tables.{ends_in}
use Rattle.lab_lines.proofs.tables.ends_in.Given as goal

abbrev pub invariant-loop-byte : goal.invariant-loop-byte
invariant-loop-byte l = record {
  rest : l.count + ends_in (drop l.byte-index l.bytes) ≡ ends_in l.bytes;
  few : l.count ≤ l.byte-index;
}
