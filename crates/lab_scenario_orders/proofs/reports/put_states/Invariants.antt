use Rattle.std.proofs.Common.{◌≡◌, ◌++◌, drop}
use Rattle.std.specs.Prelude.{string_bytes}
use Rattle.lab_scenario_orders.specs.Reports.{states_text}
use Rattle.lab_scenario_orders.proofs.reports.put_states.Given as goal

abbrev pub invariant-loop-place : goal.invariant-loop-place
invariant-loop-place g l =
    string_bytes l.text ++ states_text l.callers l.outcomes.whole l.place (drop l.place l.watches) l.outcomes.firsts.items
    ≡ string_bytes l.initial.text ++ states_text l.callers l.outcomes.whole 0 l.watches l.outcomes.firsts.items
