use Rattle.std.proofs.Common.{◌≡◌, ◌++◌, drop, map}
use Rattle.lab_scenario_orders.specs.Callers.{is_held}
use Rattle.lab_scenario_orders.specs.Moments.{held_in}
use Rattle.lab_scenario_orders.proofs.kernels.held_of.Given as goal

abbrev pub invariant-loop-caller : goal.invariant-loop-caller
invariant-loop-caller g l =
    l.all.items ++ map (λ caller. is_held l.callers.as_picked l.kernel.history.state caller.who.0) (drop l.caller-index l.callers.callers.items) ≡ held_in l.callers l.kernel.history.state
