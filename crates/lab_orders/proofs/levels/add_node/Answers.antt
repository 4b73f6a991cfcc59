use Rattle.std.proofs.Common.{◌≡◌, ℕ, ◌∙◌, ap, sym, arith}
use Rattle.std.specs.Prelude.{Some, cond, nat_eq, vec_len}
use Rattle.std.specs.HashMap.{get}
use Rattle.lab_orders.proofs.Indexing.{indexed_push}
use Rattle.lab_orders.proofs.levels.add_node.Goals as goal

pub returns-clause-indexed : goal.returns-clause-indexed
returns-clause-indexed g c = λ digests count was.
    let old = c.args.level.now in
    indexed_push digests c.args.digest old (record { nodes = c.push-2.new.self; places = c.insert.new.self; older = c.push.new.self }) c.newest_of-older.result was c.in_ok-push.ensures.items c.newest_of-older.ensures
    (λ q. c.in_ok-insert.ensures.updates.0 q ∙ ap (λ (n : ℕ). cond (nat_eq c.args.digest q) (Some n) (get nat_eq old.places q)) (omega (arith, count, c.len.ensures, old.nodes.ok.0)))
