use Rattle.std.proofs.Common.{◌≡◌, ◌++◌, drop, map}
use Rattle.std.specs.Prelude.{option_map}
use Rattle.toml.specs.Data.{as_str}
use Rattle.toml.specs.View.{items_view}
use Rattle.evl_scenario.specs.Tables.{all_given}
use Rattle.lab_scenario_orders.specs.Asks.{AreOfCallers, never_text}
use Rattle.lab_scenario_orders.proofs.nevers.read_all.Given as goal

abbrev pub invariant-loop-i : goal.invariant-loop-i
invariant-loop-i l = record {
  texts : option_map (λ texts. map never_text l.all.items ++ texts) (all_given as_str (items_view (drop l.i l.values))) ≡ all_given as_str (items_view l.values);
  who : AreOfCallers l.callers.callers.items l.all.items;
}
