use Rattle.std.proofs.Common.{◌≡◌}
use Rattle.lab_orders.specs.Machines.{numbers_below}
use Rattle.lab_orders.specs.Fronts.{AddsSteps}
use Rattle.lab_orders.specs.Levels.{IsApart}
use Rattle.lab_orders.proofs.Fronts.{goes_by}
use Rattle.lab_orders.proofs.exploring.add_nexts.Given as goal

abbrev pub invariant-loop-caller : goal.invariant-loop-caller
invariant-loop-caller g l =
    let m = g.W.World.machine l.world in
    let state = g.W.World.state l.world in
    record {
      goes : l.goes_on ≡ goes_by m (state l.node.at) (numbers_below l.caller);
      adds : AddsSteps m state (g.W.World.fits l.world) l.node (numbers_below l.caller) l.initial.next.nodes.items l.next.nodes.items;
      apart : g.W.World.complete l.world → IsApart state (g.W.World.digest_at l.world) l.initial.next → IsApart state (g.W.World.digest_at l.world) l.next;
    }
