use Rattle.std.proofs.Common.{◌≡◌, ◌++◌, drop}
use Rattle.lab_scenario_orders.specs.Leaving.{leaving_steps}
use Rattle.lab_scenario_orders.proofs.departures.leaving_steps.Given as goal

abbrev pub invariant-loop-caller : goal.invariant-loop-caller
invariant-loop-caller l =
    l.leaving.items ++ leaving_steps l.setup l.steps (drop l.caller-index l.callers) ≡ leaving_steps l.setup l.steps l.callers
