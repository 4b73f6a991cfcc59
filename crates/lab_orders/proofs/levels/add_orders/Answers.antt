use Rattle.std.proofs.Common.{arith, refl}
use Rattle.lab_orders.proofs.Fronts.{some_at, adds_found, adds_new}
use Rattle.lab_orders.proofs.Indexing.{apart_push, apart_raised}
use Rattle.lab_orders.proofs.TooMany.{count_within}
use Rattle.lab_orders.proofs.levels.add_orders.Goals as goal

pub returns-in-Ok-clause-adds : goal.returns-in-Ok-clause-adds
returns-in-Ok-clause-adds g c =
    let w = c.args.world.now in
    let old = c.args.level.now.nodes.items in
    let there = some_at old c.in-Some.place (omega (arith, c.in-Some.ensures.within, c.args.level.now.nodes.ok.0)) in
    adds_found (g.W.World.machine w) (g.W.World.state w) (g.W.World.fits w) c.args.before.now c.args.caller (g.W.World.state w c.args.reached.at) old c.add_at.new.nodes.items
    c.in-Some.place there.0 c.requires.leads there.1 (c.in-Some.ensures.same there.0 there.1) (c.in-Ok.ensures.raised there.0 there.1) c.requires.nodes

pub returns-in-Ok-add_moment-clause-adds : goal.returns-in-Ok-add_moment-clause-adds
returns-in-Ok-add_moment-clause-adds g c =
    let w = c.args.world.now in
    let made = c.in-Ok-add_moment.ensures.node in
    adds_new (g.W.World.machine w) (g.W.World.state w) (g.W.World.fits w) c.args.before.now c.args.caller c.args.reached.at c.args.level.now.nodes.items
    c.add_moment.new.level.nodes.items made.0 c.requires.leads c.requires.moment made.1 made.2 made.3 made.4 c.requires.nodes c.requires.count

pub returns-in-Some-clause-uncounted : goal.returns-in-Some-clause-uncounted
returns-in-Some-clause-uncounted g c = λ e.
    let old = c.args.level.now.nodes.items in
    let there = some_at old c.in-Some.place (omega (arith, c.in-Some.ensures.within, c.args.level.now.nodes.ok.0)) in
    omega (arith, c.in-Err.ensures.uncounted there.0 there.1, count_within (g.W.World.state c.args.world.now) old c.in-Some.place there.0 there.1)

pub returns-in-Ok-clause-apart : goal.returns-in-Ok-clause-apart
returns-in-Ok-clause-apart g c = λ whole was.
    let w = c.args.world.now in
    let old = c.args.level.now in
    let there = some_at old.nodes.items c.in-Some.place (omega (arith, c.in-Some.ensures.within, old.nodes.ok.0)) in
    apart_raised (g.W.World.state w) (g.W.World.digest_at w) old (record old { nodes = c.add_at.new.nodes }) c.in-Some.place c.args.before.now.count there.0 there.1 (c.in-Ok.ensures.raised there.0 there.1) refl refl was

pub returns-in-Ok-add_moment-clause-apart : goal.returns-in-Ok-add_moment-clause-apart
returns-in-Ok-add_moment-clause-apart g c = λ whole was.
    let w = c.args.world.now in
    let made = c.in-Ok-add_moment.ensures.node in
    let is = c.digest-digest.ensures whole in
    apart_push (g.W.World.state w) (g.W.World.digest_at w) c.args.level.now c.add_moment.new.level made.0 c.args.reached.at c.digest-digest.result made.1 made.2 is
    (c.in-None.ensures.none whole is was)
    (λ digests each indexed. c.in-Ok-add_moment.ensures.indexed digests (omega (arith, each, c.args.level.now.nodes.ok.0)) indexed) was
