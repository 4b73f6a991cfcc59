use Rattle.std.proofs.Common.{◌≡◌, ℕ, List, ◌∙◌, ap, sym, arith}
use Rattle.std.specs.Prelude.{nat_eq, slice_get}
use Rattle.std.specs.HashMap.{get}
use Rattle.lab_orders.specs.declared.nodes.Node.{Node}
use Rattle.lab_orders.proofs.Indexing.{past_all, past_end, past_first, past_more}
use Rattle.lab_orders.proofs.levels.place_of.Goals as goal

pub loop-step-init : goal.loop-step-init
loop-step-init g c = λ whole is apart.
    let w = c.args.world.now in
    let level = c.args.level.now in
    past_first (g.W.World.state w) (g.W.World.digest_at w) level (g.W.World.state w c.args.reached.now.at) c.newest_of-next.result apart
    (c.newest_of-next.ensures ∙ ap (λ (d : ℕ). get nat_eq level.places d) is)

pub loop-step-preserved : goal.loop-step-preserved
loop-step-preserved g c = λ whole is apart.
    let w = c.args.world.now in
    let level = c.args.level.now in
    past_more (g.W.World.state w) (g.W.World.digest_at w) level (g.W.World.state w c.args.reached.now.at) c.loop-step.next c.older_than-next.result c.loop-step._step c.in-Some.place apart c.in-Some.is
    (λ node e. c.is_at.ensures.apart whole c.if-is_at.false node (ap (λ (nodes : List _). slice_get nodes c.in-Some.place) c.as_slice.ensures.value ∙ e))
    c.older_than-next.ensures (c.loop-step.invariant whole is apart)

pub returns-in_default-clause-none : goal.returns-in_default-clause-none
returns-in_default-clause-none g c = λ whole is apart.
    let w = c.args.world.now in
    past_all (g.W.World.state w) (g.W.World.digest_at w) c.args.level.now (g.W.World.state w c.args.reached.now.at) c.loop-step.next c.loop-step._step c.in_default.is (c.loop-step.invariant whole is apart)

pub returns-clause-none : goal.returns-clause-none
returns-clause-none g c = λ whole is apart.
    let w = c.args.world.now in
    let level = c.args.level.now in
    past_end (g.W.World.state w) (g.W.World.digest_at w) level (g.W.World.state w c.args.reached.now.at) c.loop-step.next c.loop-step._step (omega (arith, c.loop-step-test.false, c.len-step-end.ensures, level.nodes.ok.0))
    (c.loop-step.invariant whole is apart)
