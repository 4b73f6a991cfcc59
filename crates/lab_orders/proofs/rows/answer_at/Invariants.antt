use Rattle.std.proofs.Common.{◌≡◌, length}
use Rattle.lab_orders.specs.Answers.{answer_at}
use Rattle.lab_orders.proofs.rows.answer_at.Given as goal

abbrev pub invariant-loop-first : goal.invariant-loop-first
invariant-loop-first l = answer_at l.left l.rest ≡ answer_at l.step l.row

abbrev pub decreases-loop-first : goal.decreases-loop-first
decreases-loop-first l = length l.rest
