use Rattle.std.proofs.Common.{Bor, List, ℕ, length, map, sym}
use Rattle.std.proofs.lemmas.List.{length-map}
use Rattle.lab_orders.specs.Seen.{seen_rows}
use Rattle.lab_orders.proofs.LineLaws.{told_written}
use Rattle.lab_orders.proofs.lines.put_told.Goals as goal

pub returns : goal.returns
returns c =
    let all = c.args.answers.now in
    let now = λ (answer : Bor (List ℕ)). answer.now in
    told_written c.put_unmade.result c.args.step (seen_rows c.args.rows.now) (map now all) c.args.text.now.items c.put_each.new.text.items c.put_unmade.new.text.items (length all) c.orders_without.result
    c.in_ok-put_each.ensures (sym (length-map all now)) c.orders_without.ensures c.put_unmade.ensures
