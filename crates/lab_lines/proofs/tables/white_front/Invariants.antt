use Rattle.std.proofs.Common.{◌≡◌, ◌+◌, drop}
use Rattle.std.specs.List.{prefix_len}
use Rattle.lab_lines.specs.Tables.{is_white}
use Rattle.lab_lines.proofs.tables.white_front.Given as goal

abbrev pub invariant-loop-index : goal.invariant-loop-index
invariant-loop-index l = l.index + prefix_len is_white (drop l.index l.bytes) ≡ prefix_len is_white l.bytes
