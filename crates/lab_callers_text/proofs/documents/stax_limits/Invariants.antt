use Rattle.std.proofs.Common.{◌≡◌, ◌≤◌, ◌++◌, length, option_map, drop}
use Rattle.toml.specs.View.{items_view}
use Rattle.lab_callers_text.specs.Documents.{limit_from}
use Rattle.evl_scenario.specs.Tables.{all_given}
use Rattle.lab_callers_text.proofs.documents.stax_limits.Given as goal

abbrev pub invariant-loop-value : goal.invariant-loop-value
invariant-loop-value l = record {
  rest : option_map (λ xs. l.limits.items ++ xs) (all_given limit_from (items_view (drop l.value-index l.values))) ≡ all_given limit_from (items_view l.values);
  room : length l.limits.items ≤ 16;
}
