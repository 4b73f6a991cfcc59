use Rattle.std.proofs.Common.{◌≡◌, take}
use Rattle.std.specs.Prelude.{if◌then◌else◌, sum_by}
use Rattle.lab_orders.specs.Answers.{is_answered}
use Rattle.lab_orders.proofs.counts.orders_with.Given as goal

abbrev pub invariant-loop-row : goal.invariant-loop-row
invariant-loop-row l = l.count ≡ sum_by (λ row. if is_answered l.step l.answer row.told.now then row.count else 0) (take l.row-index l.rows)
