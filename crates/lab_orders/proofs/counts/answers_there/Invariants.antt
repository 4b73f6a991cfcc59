use Rattle.std.proofs.Common.{◌≡◌, [], drop, map}
use Rattle.std.specs.Prelude.{filter_map}
use Rattle.lab_orders.specs.Answers.{answer_at}
use Rattle.lab_orders.proofs.OnceLaws.{gathered}
use Rattle.lab_orders.proofs.counts.answers_there.Given as goal

abbrev pub invariant-loop-row : goal.invariant-loop-row
invariant-loop-row l =
    gathered (map (λ answer. answer.now) l.all.items) (filter_map (λ row. answer_at l.step row.told.now) (drop l.row-index l.rows))
    ≡ gathered [] (filter_map (λ row. answer_at l.step row.told.now) l.rows)
