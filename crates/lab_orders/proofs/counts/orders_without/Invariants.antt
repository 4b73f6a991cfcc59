use Rattle.std.proofs.Common.{◌≡◌, take}
use Rattle.std.specs.Prelude.{if◌then◌else◌, is_some, sum_by}
use Rattle.lab_orders.specs.Answers.{answer_at}
use Rattle.lab_orders.proofs.counts.orders_without.Given as goal

abbrev pub invariant-loop-row : goal.invariant-loop-row
invariant-loop-row l = l.count ≡ sum_by (λ row. if is_some (answer_at l.step row.told.now) then 0 else row.count) (take l.row-index l.rows)
