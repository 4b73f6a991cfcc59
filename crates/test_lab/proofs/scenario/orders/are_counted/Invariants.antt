use Rattle.std.proofs.Common.{◌≡◌, take}
use Rattle.lab_orders.specs.Tallies.{told_weight}
use Rattle.test_lab.proofs.scenario.orders.are_counted.Given as goal

abbrev pub invariant-loop-outcome : goal.invariant-loop-outcome
invariant-loop-outcome l = l.count ≡ told_weight (λ told. 1) (take l.outcome-index l.outcomes)
