use Rattle.std.proofs.Common.{◌≡◌, ◌++◌, drop}
use Rattle.std.specs.Prelude.{string_bytes}
use Rattle.evl_scenario.specs.Writings.{tables_text}
use Rattle.lab_scenario_orders.specs.Scenarios.{steps_along}
use Rattle.lab_scenario_orders.proofs.scenarios.put_along.Given as goal

abbrev pub invariant-loop-number : goal.invariant-loop-number
invariant-loop-number l =
    string_bytes l.text ++ tables_text (steps_along l.callers l.made.items (drop l.number-index l.order)) ≡ string_bytes l.initial.text ++ tables_text (steps_along l.callers l.initial.made.items l.order)
