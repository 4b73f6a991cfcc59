use Rattle.std.proofs.Common.{◌∙◌, arith}
use Rattle.lab_orders.proofs.Fronts.{fit_same, fit_head, fit_rest, through_none, through_more, through_all}
use Rattle.lab_orders.proofs.Indexing.{apart_none}
use Rattle.lab_orders.specs.Weights.{count_limit, weight}
use Rattle.lab_orders.proofs.TooMany.{too_many_from}
use Rattle.lab_orders.proofs.exploring.next_level.Goals as goal

pub loop-node-init : goal.loop-node-init
loop-node-init g c =
    let w = c.args.world.now in
    let m = g.W.World.machine w in
    let state = g.W.World.state w in
    let fits = g.W.World.fits w in
    let rest = c.into_iter-node-iterator.result.rest.items in
    let given = c.into_iter-node-iterator.ensures.into_iter_gives in
    let whole = given.0 ∙ c.into_nodes-node-items.ensures in
    record {
      fit = fit_same m state fits rest c.args.level.nodes.items whole c.requires;
      leads = through_none m state fits rest c.args.level.nodes.items c.new-next.result.nodes.items c.args.ends.now.items whole c.new-next.ensures.nodes;
      apart = λ complete. apart_none state (g.W.World.digest_at w) c.new-next.result c.new-next.ensures.nodes c.new-next.ensures.indexed;
    }

pub add_nexts-requires-clause-node : goal.add_nexts-requires-clause-node
add_nexts-requires-clause-node g c =
    let w = c.args.world.now in
    (fit_head (g.W.World.machine w) (g.W.World.state w) (g.W.World.fits w) c.loop-node.node-iterator.rest.items c.in-Some.node c.next.new.self.rest.items c.in-Some.ensures.steps.0
    c.loop-node.invariant.fit).0

pub add_nexts-requires-clause-count : goal.add_nexts-requires-clause-count
add_nexts-requires-clause-count g c =
    let w = c.args.world.now in
    (fit_head (g.W.World.machine w) (g.W.World.state w) (g.W.World.fits w) c.loop-node.node-iterator.rest.items c.in-Some.node c.next.new.self.rest.items c.in-Some.ensures.steps.0
    c.loop-node.invariant.fit).1

pub loop-node-preserved : goal.loop-node-preserved
loop-node-preserved g c =
    let w = c.args.world.now in
    let m = g.W.World.machine w in
    let state = g.W.World.state w in
    let fits = g.W.World.fits w in
    let rest = c.loop-node.node-iterator.rest.items in
    let others = c.next.new.self.rest.items in
    record {
      fit = fit_rest m state fits rest c.in-Some.node others c.in-Some.ensures.steps.0 c.loop-node.invariant.fit;
      leads = through_more m state fits rest others c.in-Some.node c.in-Ok.goes_on c.args.level.nodes.items c.loop-node.next.nodes.items c.add_nexts.new.next.nodes.items
          c.args.ends.now.items c.loop-node.ends.items c.keep_end.new.ends.items c.loop-node.invariant.leads c.in-Some.ensures.steps.0 c.in-Ok.ensures.adds c.in-Ok.ensures.goes
          c.in-Ok-keep_end.ensures.kept;
      apart = λ complete. c.in-Ok.ensures.apart complete (c.loop-node.invariant.apart complete);
    }

pub returns-clause-leads : goal.returns-clause-leads
returns-clause-leads g c =
    let w = c.args.world.now in
    let rest = c.loop-node.node-iterator.rest in
    through_all (g.W.World.machine w) (g.W.World.state w) (g.W.World.fits w) rest.items c.args.level.nodes.items c.loop-node.next.nodes.items c.args.ends.now.items
    c.loop-node.ends.items c.loop-node.invariant.leads (omega (arith, rest.ok.0, c.in-None.ensures.steps.0))

pub returns-in-Err-clause-uncounted : goal.returns-in-Err-clause-uncounted
returns-in-Err-clause-uncounted g c = λ e.
    let w = c.args.world.now in
    let state = g.W.World.state w in
    let through = c.loop-node.invariant.leads in
    too_many_from (g.W.World.machine w) (λ s. 1) state count_limit (weight state (λ s. 1) c.loop-node.next.nodes.items) through.0 c.loop-node.node-iterator.rest.items c.next.new.self.rest.items
    c.args.level.nodes.items c.in-Some.node through.1 c.in-Some.ensures.steps.0 (through.2.sums (λ s. 1)) (c.in-Err.ensures.uncounted e)

pub returns-clause-apart : goal.returns-clause-apart
returns-clause-apart g c = λ complete. (c.loop-node.invariant.apart complete).apart
