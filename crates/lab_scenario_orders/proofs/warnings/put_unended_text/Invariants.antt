use Rattle.std.proofs.Common.{◌≡◌, ◌++◌, drop}
use Rattle.std.specs.Prelude.{string_bytes}
use Rattle.lab_scenario_orders.specs.Warnings.{unended_text}
use Rattle.lab_scenario_orders.proofs.warnings.put_unended_text.Given as goal

abbrev pub invariant-loop-caller : goal.invariant-loop-caller
invariant-loop-caller l = string_bytes l.text ++ unended_text l.callers (drop l.caller-index l.all) ≡ string_bytes l.initial.text ++ unended_text l.callers l.all
