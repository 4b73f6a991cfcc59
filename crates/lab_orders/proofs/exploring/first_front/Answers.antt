use Rattle.lab_orders.proofs.Fronts.{front_at}
use Rattle.lab_orders.proofs.Indexing.{apart_one}
use Rattle.lab_orders.proofs.exploring.first_front.Goals as goal

pub returns-clause-front : goal.returns-clause-front
returns-clause-front g c =
    let w = c.args.world.now in
    let first = c.in_ok-level.ensures in
    front_at (g.W.World.machine w) (g.W.World.state w) (g.W.World.fits w) first.0 c.args.start c.in_ok-level.level.nodes.items c.new.result.items
    first.1 first.2 first.3 first.4 c.requires c.new.ensures.items

pub returns-clause-apart : goal.returns-clause-apart
returns-clause-apart g c =
    let w = c.args.world.now in
    let first = c.in_ok-level.ensures in
    apart_one (g.W.World.state w) (g.W.World.digest_at w) c.in_ok-level.level.nodes.items first.0 first.1
