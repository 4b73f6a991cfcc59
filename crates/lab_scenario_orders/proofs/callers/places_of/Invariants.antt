use Rattle.std.proofs.Common.{◌≡◌, ◌++◌, drop}
use Rattle.lab_scenario_orders.specs.Shares.{places_from}
use Rattle.lab_scenario_orders.proofs.callers.places_of.Given as goal

abbrev pub invariant-loop-place : goal.invariant-loop-place
invariant-loop-place l = l.places.items ++ places_from l.place l.who.0 (drop l.place l.steps) ≡ places_from 0 l.who.0 l.steps
