use Rattle.std.proofs.Common.{◌≡◌, ◌++◌, ◌+◌, drop}
use Rattle.std.specs.Prelude.{string_bytes}
use Rattle.lab_scenario_orders.specs.Reports.{outcomes_text}
use Rattle.lab_scenario_orders.proofs.reports.put_outcomes.Given as goal

abbrev pub invariant-loop-i : goal.invariant-loop-i
invariant-loop-i g l =
    string_bytes l.text ++ outcomes_text l.callers (l.i + 1) (drop l.i l.outcomes) ≡ string_bytes l.initial.text ++ outcomes_text l.callers 1 l.outcomes
