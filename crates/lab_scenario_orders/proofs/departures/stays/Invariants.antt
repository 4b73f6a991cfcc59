use Rattle.std.proofs.Common.{◌≡◌, drop}
use Rattle.lab_scenario_orders.specs.Leaving.{stays}
use Rattle.lab_scenario_orders.proofs.departures.stays.Given as goal

abbrev pub invariant-loop-step : goal.invariant-loop-step
invariant-loop-step l = stays l.there l.who.0 (drop l.step-index l.steps) ≡ stays l.was l.who.0 l.steps
