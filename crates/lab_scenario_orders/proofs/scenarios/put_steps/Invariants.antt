use Rattle.std.proofs.Common.{◌≡◌, ◌++◌, drop}
use Rattle.std.specs.Prelude.{string_bytes}
use Rattle.evl_scenario.specs.Writings.{tables_text}
use Rattle.lab_scenario_orders.proofs.scenarios.put_steps.Given as goal

abbrev pub invariant-loop-step : goal.invariant-loop-step
invariant-loop-step l = string_bytes l.text ++ tables_text (drop l.step-index l.steps) ≡ string_bytes l.initial.text ++ tables_text l.steps
