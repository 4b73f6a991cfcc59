use Rattle.std.proofs.Common.{◌≡◌, ◌++◌, ◌+◌, drop}
use Rattle.std.specs.Prelude.{string_bytes}
use Rattle.lab_step_orders.specs.Reports.{outcomes_text}
use Rattle.lab_step_orders.proofs.reports.put_outcomes.Given as goal

abbrev pub invariant-loop-i : goal.invariant-loop-i
invariant-loop-i l =
    string_bytes l.text ++ outcomes_text l.crew (l.i + 1) (drop l.i l.outcomes) ≡ string_bytes l.initial.text ++ outcomes_text l.crew 1 l.outcomes
