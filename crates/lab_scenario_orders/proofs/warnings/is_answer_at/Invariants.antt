use Rattle.std.proofs.Common.{◌≡◌, length}
use Rattle.lab_scenario_orders.specs.Warnings.{is_answer_at}
use Rattle.lab_scenario_orders.proofs.warnings.is_answer_at.Given as goal

abbrev pub invariant-loop-first : goal.invariant-loop-first
invariant-loop-first l = is_answer_at l.answer l.left l.rest ≡ is_answer_at l.answer l.place l.text

abbrev pub decreases-loop-first : goal.decreases-loop-first
decreases-loop-first l = length l.rest
