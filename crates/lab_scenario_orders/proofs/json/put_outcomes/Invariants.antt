use Rattle.std.proofs.Common.{◌≡◌, ◌++◌, drop}
use Rattle.std.specs.Prelude.{string_bytes}
use Rattle.lab_scenario_orders.specs.Json.{outcomes_from}
use Rattle.lab_scenario_orders.proofs.json.put_outcomes.Given as goal

abbrev pub invariant-loop-place : goal.invariant-loop-place
invariant-loop-place l =
    string_bytes l.text ++ outcomes_from l.callers l.ask l.place (drop l.place l.outcomes) ≡ string_bytes l.initial.text ++ outcomes_from l.callers l.ask 0 l.outcomes
