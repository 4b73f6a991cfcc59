use Rattle.lab_orders.proofs.Fronts.{caller_more, goes_next}
use Rattle.std.proofs.Common.{arith}
use Rattle.lab_orders.specs.Weights.{count_limit, weight}
use Rattle.lab_orders.proofs.TooMany.{too_many_by}
use Rattle.lab_orders.proofs.exploring.add_nexts.Goals as goal

pub loop-caller-preserved : goal.loop-caller-preserved
loop-caller-preserved g c =
    let w = c.args.world.now in
    let m = g.W.World.machine w in
    let state = g.W.World.state w in
    let node = c.args.node.now in
    record {
      goes = goes_next m state (g.W.World.fits w) (state node.at) c.loop-caller.caller c.loop-caller.goes_on c.in-Ok.goes c.is_either-goes_on.result c.loop-caller.invariant.goes c.in-Ok.ensures.goes
          c.is_either-goes_on.ensures;
      adds = caller_more m state (g.W.World.fits w) node c.loop-caller.caller c.args.next.now.nodes.items c.loop-caller.next.nodes.items c.add_next.new.next.nodes.items
          c.loop-caller.invariant.adds c.in-Ok.ensures.adds;
      apart = λ whole was. c.in-Ok.ensures.apart whole (c.loop-caller.invariant.apart whole was);
    }

pub returns-in-Err-clause-uncounted : goal.returns-in-Err-clause-uncounted
returns-in-Err-clause-uncounted g c = λ e.
    let w = c.args.world.now in
    let state = g.W.World.state w in
    let node = c.args.node.now in
    too_many_by (g.W.World.machine w) (λ s. 1) count_limit (weight state (λ s. 1) c.loop-caller.next.nodes.items) (weight state (λ s. 1) c.args.next.now.nodes.items) node.count
    (state node.at) c.loop-caller.caller (omega (arith, c.loop-caller-test.true, c.callers-callers.ensures)) (c.loop-caller.invariant.adds.sums (λ s. 1)) (c.in-Err.ensures.uncounted e)
