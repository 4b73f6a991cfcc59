use Rattle.std.proofs.Common.{◌≡◌, ◌++◌, drop, map}
use Rattle.std.specs.Prelude.{option_map, string_bytes}
use Rattle.toml.specs.Data.{as_str}
use Rattle.toml.specs.View.{items_view}
use Rattle.evl_scenario.specs.Tables.{all_given}
use Rattle.lab_scenario_orders.specs.WatchTexts.{watch_text}
use Rattle.lab_scenario_orders.specs.Watches.{AreWatches}
use Rattle.lab_scenario_orders.specs.declared.watches.Watch.{Watch}
use Rattle.lab_scenario_orders.proofs.watch_texts.read_values.Given as goal

abbrev pub invariant-loop-i : goal.invariant-loop-i
invariant-loop-i l = record {
  texts : option_map (λ texts. map (λ (watch : Watch). string_bytes watch.text) l.all.items ++ texts) (all_given as_str (items_view (drop l.i l.values))) ≡ all_given as_str (items_view l.values);
  when : map watch_text l.all.items ≡ map (λ text. (l.when, text)) (map (λ (watch : Watch). string_bytes watch.text) l.all.items);
  are : AreWatches l.board l.all.items;
}
