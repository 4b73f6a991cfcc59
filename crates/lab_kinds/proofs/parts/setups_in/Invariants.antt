use Rattle.std.proofs.Common.{◌≡◌, ◌≤◌, ◌+◌, drop, map}
use Rattle.std.specs.Prelude.{count_by}
use Rattle.lab_scenario_orders.specs.Splits.{is_setup}
use Rattle.lab_kinds.proofs.parts.setups_in.Given as goal

abbrev pub invariant-loop-line : goal.invariant-loop-line
invariant-loop-line l = record {
  rest : l.count + count_by is_setup (map (λ line. line.now) (drop l.line-index l.lines)) ≡ count_by is_setup (map (λ line. line.now) l.lines);
  few : l.count ≤ l.line-index;
}
