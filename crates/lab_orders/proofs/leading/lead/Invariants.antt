use Rattle.std.proofs.Common.{◌≡◌, take}
use Rattle.std.specs.Prelude.{Some}
use Rattle.lab_orders.specs.Machines.{led_along}
use Rattle.lab_orders.proofs.leading.lead.Given as goal

abbrev pub invariant-loop-made : goal.invariant-loop-made
invariant-loop-made g l =
    let state = g.W.World.state l.world in
    record {
      fits : g.W.World.fits l.world l.at;
      leads : led_along (g.W.World.machine l.world) (state l.fn.start) (take l.made l.order) ≡ Some (state l.at);
    }
