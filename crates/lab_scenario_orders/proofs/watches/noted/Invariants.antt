use Rattle.std.proofs.Common.{◌≡◌, ◌++◌, drop, map}
use Rattle.lab_scenario_orders.specs.Watches.{is_noted}
use Rattle.lab_scenario_orders.proofs.watches.noted.Given as goal

abbrev pub invariant-loop-watch : goal.invariant-loop-watch
invariant-loop-watch g l =
    l.all.items ++ map (is_noted l.kernel.history.state) (drop l.watch-index l.watches) ≡ map (is_noted l.kernel.history.state) l.watches
