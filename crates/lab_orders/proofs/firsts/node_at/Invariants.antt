use Rattle.std.proofs.Common.{◌≡◌, false, take, All}
use Rattle.lab_orders.proofs.firsts.node_at.Given as goal

abbrev pub invariant-loop-node : goal.invariant-loop-node
invariant-loop-node g l = All (λ node. g.W.World.holds l.world l.question (g.W.World.state l.world node.at) ≡ false) (take l.node-index l.nodes)
