use Rattle.std.proofs.Common.{◌≡◌, ◌≤◌, ◌++◌, length, option_map, drop}
use Rattle.toml.specs.View.{items_view}
use Rattle.evl_scenario.specs.Tables.{all_given}
use Rattle.evl_scenario.proofs.tables.read_all.Given as goal

abbrev pub invariant-loop-value : goal.invariant-loop-value
invariant-loop-value g l = record {
  rest : option_map (λ xs. l.list.items ++ xs) (all_given g.T.FromToml.gives (items_view (drop l.value-index l.values))) ≡ all_given g.T.FromToml.gives (items_view l.values);
  room : length l.list.items ≤ g.row.N;
}
