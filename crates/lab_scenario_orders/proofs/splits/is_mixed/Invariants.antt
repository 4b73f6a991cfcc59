use Rattle.std.proofs.Common.{◌≡◌, ◌&&◌, ◌||◌, drop, map}
use Rattle.std.specs.List.{list_any}
use Rattle.lab_scenario_orders.specs.Splits.{is_mixed, is_setup}
use Rattle.lab_scenario_orders.proofs.splits.is_mixed.Given as goal

abbrev pub invariant-loop-line : goal.invariant-loop-line
invariant-loop-line l =
    let rest = map (λ line. line.now) (drop l.line-index l.lines) in
    ((l.has_steps && list_any is_setup rest) || is_mixed rest) ≡ is_mixed (map (λ line. line.now) l.lines)
