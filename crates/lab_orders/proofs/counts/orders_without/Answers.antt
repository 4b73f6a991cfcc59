use Rattle.std.proofs.Common.{[], arith}
use Rattle.std.specs.Prelude.{if◌then◌else◌, is_some}
use Rattle.lab_orders.specs.Answers.{answer_at}
use Rattle.lab_orders.specs.declared.counts.Row.{Row}
use Rattle.lab_orders.proofs.SumLaws.{one_more, those_without}
use Rattle.lab_orders.proofs.counts.orders_without.Goals as goal

pub overflow_add-count : goal.overflow_add-count
overflow_add-count c =
    let step = c.args.step in
    omega (
      arith,
      c.requires,
      c.loop-row.invariant,
      one_more (λ (row : Row). if is_some (answer_at step row.told.now) then 0 else row.count) c.args.rows.now c.loop-row.row-index
          (record { told = record { ref_ptr = (0, 0); now = [] }; count = 0 }) c.loop-row-test.true (λ row. those_without (is_some (answer_at step row.told.now)) row.count),
    )
