use Rattle.std.proofs.Common.{◌≡◌, length}
use Rattle.lab_scenario_orders.specs.Asks.{is_answered}
use Rattle.lab_scenario_orders.proofs.searches.is_answered.Given as goal

abbrev pub invariant-loop-first : goal.invariant-loop-first
invariant-loop-first l = is_answered l.answer l.rest ≡ is_answered l.answer l.text

abbrev pub decreases-loop-first : goal.decreases-loop-first
decreases-loop-first l = length l.rest
