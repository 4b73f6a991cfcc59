use Rattle.std.proofs.Common.{◌≡◌, ◌++◌}
use Rattle.std.specs.Prelude.{string_bytes}
use Rattle.lab_scenario_orders.specs.Told.{lines_below}
use Rattle.lab_scenario_orders.specs.Warnings.{refused_line}
use Rattle.lab_scenario_orders.proofs.warnings.put_all_refused.Given as goal

abbrev pub invariant-loop-place : goal.invariant-loop-place
invariant-loop-place l = string_bytes l.text ≡ string_bytes l.initial.text ++ lines_below (refused_line l.outcomes l.who) l.place
