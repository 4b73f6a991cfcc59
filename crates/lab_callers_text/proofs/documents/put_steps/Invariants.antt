use Rattle.std.proofs.Common.{◌≡◌, ◌++◌, ◌+◌, ◌&&◌, length, true, map, option_map}
use Rattle.toml.specs.View.{items_view, view}
use Rattle.lab_callers_text.specs.Documents.{all_put, put_list, mark_in, mark_view, step_as}
use Rattle.evl_scenario.specs.Tables.{all_given}
use Rattle.lab_callers_text.proofs.documents.put_steps.Given as goal

abbrev pub invariant-loop-value : goal.invariant-loop-value
invariant-loop-value l = record {
  put : l.marks.are_put && all_put (items_view l.value-iterator.rest.items) ≡ all_put (items_view l.fn.values.items);
  all : map view l.steps.items ++ put_list (items_view l.value-iterator.rest.items) ≡ put_list (items_view l.fn.values.items);
  each : length l.marks.all.items + length (put_list (items_view l.value-iterator.rest.items)) ≡ length (put_list (items_view l.fn.values.items));
  marks : l.marks.are_put ≡ true → option_map (λ more. map (option_map mark_view) l.marks.all.items ++ more) (all_given mark_in (items_view l.value-iterator.rest.items)) ≡ all_given mark_in (items_view l.fn.values.items);
  steps : l.marks.are_put ≡ true → option_map (λ more. map view l.steps.items ++ more) (all_given step_as (items_view l.value-iterator.rest.items)) ≡ all_given step_as (items_view l.fn.values.items);
}
