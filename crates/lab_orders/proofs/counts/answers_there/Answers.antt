use Rattle.std.proofs.Common.{◌∙◌, Bor, List, ℕ, ap, arith, map, sym}
use Rattle.std.specs.Prelude.{filter_map}
use Rattle.std.proofs.lemmas.List.{drop_all}
use Rattle.lab_orders.specs.Answers as answers
use Rattle.lab_orders.specs.Answers.{answer_at, each_once}
use Rattle.lab_orders.specs.declared.counts.Row.{Row}
use Rattle.lab_orders.proofs.OnceLaws.{filter_map-map, gathered, gathered_once}
use Rattle.lab_orders.proofs.counts.answers_there.Goals as goal

pub returns : goal.returns
returns c =
    let step = c.args.step in
    let rows = c.args.rows.now in
    let come = map (λ (answer : Bor (List ℕ)). answer.now) c.loop-row.all.items in
    let over = drop_all c.loop-row.row-index rows (omega (arith, c.loop-row-test.false)) in
    sym (ap (λ (rest : List Row). gathered come (filter_map (λ (row : Row). answer_at step row.told.now) rest)) over)
    ∙ (c.loop-row.invariant ∙ (gathered_once (filter_map (λ (row : Row). answer_at step row.told.now) rows)
    ∙ ap each_once (sym (filter_map-map (λ (row : answers.Row). answer_at step row.0) (λ (row : Row). (row.told.now, row.count)) rows))))
