use Rattle.std.proofs.Common.{◌≡◌, All, drop, map, []}
use Rattle.lab_scenario_orders.specs.Shares.{places_from, threads_after}
use Rattle.lab_scenario_orders.proofs.callers.callers_of.Given as goal

abbrev pub invariant-loop-step : goal.invariant-loop-step
invariant-loop-step l = record {
  threads : threads_after (map (λ caller. caller.who.0) l.callers.items) (drop l.step-index l.steps) ≡ threads_after [] l.steps;
  places : All (λ caller. caller.places.items ≡ places_from 0 caller.who.0 l.steps) l.callers.items;
}
