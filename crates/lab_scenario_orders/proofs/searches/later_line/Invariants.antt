use Rattle.std.proofs.Common.{◌≡◌, length}
use Rattle.lab_scenario_orders.specs.Asks.{later_line}
use Rattle.lab_scenario_orders.proofs.searches.later_line.Given as goal

abbrev pub invariant-loop-first : goal.invariant-loop-first
invariant-loop-first g l = later_line (g.Q.Question.holds l.question) l.rest ≡ later_line (g.Q.Question.holds l.question) l.text

abbrev pub decreases-loop-first : goal.decreases-loop-first
decreases-loop-first g l = length l.rest
