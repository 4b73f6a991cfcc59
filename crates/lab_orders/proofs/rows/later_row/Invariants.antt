use Rattle.std.proofs.Common.{◌≡◌, length}
use Rattle.lab_orders.specs.Answers.{later_row}
use Rattle.lab_orders.proofs.rows.later_row.Given as goal

abbrev pub invariant-loop-first : goal.invariant-loop-first
invariant-loop-first l = later_row l.who l.rest ≡ later_row l.who l.text

abbrev pub decreases-loop-first : goal.decreases-loop-first
decreases-loop-first l = length l.rest
