use Rattle.std.proofs.Common.{◌≡◌, ◌++◌, drop}
use Rattle.std.specs.Prelude.{string_bytes}
use Rattle.lab_scenario_orders.specs.Json.{names_from}
use Rattle.lab_scenario_orders.proofs.json.put_names.Given as goal

abbrev pub invariant-loop-place : goal.invariant-loop-place
invariant-loop-place l =
    string_bytes l.text ++ names_from l.callers l.place (drop l.place l.order) ≡ string_bytes l.initial.text ++ names_from l.callers 0 l.order
