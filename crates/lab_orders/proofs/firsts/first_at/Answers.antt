use Rattle.lab_orders.proofs.Noticing.{none_more}
use Rattle.lab_orders.proofs.firsts.first_at.Goals as goal

pub returns-in-None : goal.returns-in-None
returns-in-None g c = λ s k ends front sooner.
    let w = c.args.world.now in
    none_more (g.W.World.machine w) (g.W.World.state w) s (g.W.World.holds w c.args.question) k c.args.nodes.now front.reached c.in-None.ensures.none sooner
