use Rattle.std.proofs.Common.{◌≡◌, ◌++◌, drop, flat_map}
use Rattle.std.specs.Prelude.{string_bytes}
use Rattle.lab_scenario_orders.specs.Reports.{who_text}
use Rattle.lab_scenario_orders.proofs.reports.put_all.Given as goal

abbrev pub invariant-loop-caller : goal.invariant-loop-caller
invariant-loop-caller l =
    string_bytes l.text ++ flat_map (who_text l.callers) (drop l.caller-index l.order) ≡ string_bytes l.initial.text ++ flat_map (who_text l.callers) l.order
