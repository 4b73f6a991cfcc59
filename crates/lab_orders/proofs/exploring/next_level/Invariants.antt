use Rattle.std.proofs.Common.{◌≡◌, List, ◌++◌}
use Rattle.lab_orders.specs.Fronts.{AreFit, LeadsOn}
use Rattle.lab_orders.specs.Levels.{IsApart}
use Rattle.lab_orders.proofs.exploring.next_level.Given as goal

abbrev pub invariant-loop-node : goal.invariant-loop-node
invariant-loop-node g l =
    let m = g.W.World.machine l.world in
    let state = g.W.World.state l.world in
    let fits = g.W.World.fits l.world in
    record {
      fit : AreFit fits l.node-iterator.rest.items;
      leads : (done : List _) × (done ++ l.node-iterator.rest.items ≡ l.fn.level.nodes.items) × LeadsOn m state fits done l.next.nodes.items l.initial.ends.items l.ends.items;
      apart : g.W.World.complete l.world → IsApart state (g.W.World.digest_at l.world) l.next;
    }
