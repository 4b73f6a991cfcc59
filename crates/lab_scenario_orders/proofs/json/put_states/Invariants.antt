use Rattle.std.proofs.Common.{◌≡◌, ◌++◌, drop}
use Rattle.std.specs.Prelude.{string_bytes}
use Rattle.lab_scenario_orders.specs.Json.{states_from}
use Rattle.lab_scenario_orders.proofs.json.put_states.Given as goal

abbrev pub invariant-loop-place : goal.invariant-loop-place
invariant-loop-place l =
    string_bytes l.text ++ states_from l.callers l.outcomes l.place (drop l.place l.watches) ≡ string_bytes l.initial.text ++ states_from l.callers l.outcomes 0 l.watches
