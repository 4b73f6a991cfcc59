use Rattle.std.proofs.Common.{◌≡◌, length}
use Rattle.lab_scenario_orders.specs.Asks.{waits_behind_number}
use Rattle.lab_scenario_orders.proofs.searches.waits_behind_number.Given as goal

abbrev pub invariant-loop-first : goal.invariant-loop-first
invariant-loop-first l = waits_behind_number l.rest ≡ waits_behind_number l.text

abbrev pub decreases-loop-first : goal.decreases-loop-first
decreases-loop-first l = length l.rest
