use Rattle.std.proofs.Common.{[], arith}
use Rattle.std.specs.Prelude.{if◌then◌else◌}
use Rattle.lab_orders.specs.Answers.{is_answered}
use Rattle.lab_orders.specs.declared.counts.Row.{Row}
use Rattle.lab_orders.proofs.SumLaws.{one_more, those_with}
use Rattle.lab_orders.proofs.counts.orders_with.Goals as goal

pub overflow_add-count : goal.overflow_add-count
overflow_add-count c =
    let step = c.args.step in
    let answer = c.args.answer.now in
    omega (
      arith,
      c.requires,
      c.loop-row.invariant,
      one_more (λ (row : Row). if is_answered step answer row.told.now then row.count else 0) c.args.rows.now c.loop-row.row-index
          (record { told = record { ref_ptr = (0, 0); now = [] }; count = 0 }) c.loop-row-test.true (λ row. those_with (is_answered step answer row.told.now) row.count),
    )
