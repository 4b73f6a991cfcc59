use Rattle.std.proofs.Common.{◌≡◌, ◌++◌, drop}
use Rattle.std.specs.Prelude.{string_bytes}
use Rattle.lab_scenario_orders.specs.Warnings.{refused_text}
use Rattle.lab_scenario_orders.proofs.warnings.put_refused_text.Given as goal

abbrev pub invariant-loop-caller : goal.invariant-loop-caller
invariant-loop-caller l = string_bytes l.text ++ refused_text l.outcomes (drop l.caller-index l.callers) ≡ string_bytes l.initial.text ++ refused_text l.outcomes l.callers
