use Rattle.std.proofs.Common.{◌≡◌, drop}
use Rattle.lab_scenario_orders.specs.Warnings.{waits_after}
use Rattle.lab_scenario_orders.proofs.warnings.waits_after.Given as goal

abbrev pub invariant-loop-step : goal.invariant-loop-step
invariant-loop-step l = waits_after l.waits l.who.0 (drop l.step-index l.steps) ≡ waits_after l.was l.who.0 l.steps
