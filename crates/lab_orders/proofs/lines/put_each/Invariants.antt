use Rattle.std.proofs.Common.{◌≡◌, ◌++◌, drop, map}
use Rattle.lab_orders.specs.Answers.{answers_from}
use Rattle.lab_orders.specs.Seen.{seen_rows}
use Rattle.lab_orders.proofs.lines.put_each.Given as goal

abbrev pub invariant-loop-place : goal.invariant-loop-place
invariant-loop-place l =
    l.text.items ++ answers_from l.step (seen_rows l.rows) l.place (map (λ answer. answer.now) (drop l.place l.answers))
    ≡ l.initial.text.items ++ answers_from l.step (seen_rows l.rows) 0 (map (λ answer. answer.now) l.answers)
