use Rattle.lab_orders.proofs.Fronts.{front_more}
use Rattle.lab_orders.specs.Weights.{count_limit}
use Rattle.lab_orders.proofs.TooMany.{too_many_runs}
use Rattle.lab_orders.proofs.exploring.next_front.Goals as goal

pub returns-in-Ok-clause-front : goal.returns-in-Ok-clause-front
returns-in-Ok-clause-front g c = λ s front.
    let w = c.args.world.now in
    front_more (g.W.World.machine w) (g.W.World.state w) (g.W.World.fits w) s c.args.front.steps c.args.front.level.nodes.items c.in-Ok.next.nodes.items
    c.args.front.ends.items c.next_level.new.ends.items front c.in-Ok.ensures.leads

pub returns-in-Err-clause-uncounted : goal.returns-in-Err-clause-uncounted
returns-in-Err-clause-uncounted g c = λ e s front.
    let w = c.args.world.now in
    too_many_runs (g.W.World.machine w) (g.W.World.state w) (g.W.World.fits w) count_limit s c.args.front.steps c.args.front.level.nodes.items c.args.front.ends.items front
    (c.in-Err.ensures.uncounted e)
