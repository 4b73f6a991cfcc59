use Rattle.std.proofs.Common.{◌≡◌, ◌++◌, drop, flat_map, map}
use Rattle.lab_lines.specs.Tables.{expects_in, item_expects, line_at}
use Rattle.lab_lines.proofs.tables.expected_by.Given as goal

abbrev pub invariant-loop-item : goal.invariant-loop-item
invariant-loop-item l = record {
  rest : map expects_in l.all.items ++ flat_map (item_expects l.text) (drop l.item-index l.keys) ≡ flat_map (item_expects l.text) l.keys;
  line : l.spot.line ≡ line_at l.text l.spot.at;
}
