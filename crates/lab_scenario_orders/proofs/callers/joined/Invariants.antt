use Rattle.std.proofs.Common.{◌≡◌, ◌++◌}
use Rattle.lab_scenario_orders.proofs.callers.joined.Given as goal

abbrev pub invariant-loop-step : goal.invariant-loop-step
invariant-loop-step l = l.all.items ++ l.step-iterator.rest.items ≡ l.fn.steps.items ++ l.fn.others.items
