use Rattle.std.proofs.Common.{◌≡◌, ◌++◌, drop, map}
use Rattle.lab_lines.specs.Tables.{blank_byte}
use Rattle.lab_lines.proofs.tables.put_blanks.Given as goal

abbrev pub invariant-loop-byte : goal.invariant-loop-byte
invariant-loop-byte l = l.out.items ++ map blank_byte (drop l.byte-index l.bytes) ≡ l.initial.out.items ++ map blank_byte l.bytes
