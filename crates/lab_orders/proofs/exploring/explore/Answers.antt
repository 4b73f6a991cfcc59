use Rattle.std.proofs.Common.{ℕ, List, ◌+◌, ◌∙◌, arith, inr, subst, sym}
use Rattle.lab_orders.proofs.Fronts.{counted_at, whole_at, cut_at, more_at, led_at, over_at}
use Rattle.lab_orders.proofs.Going.{apart_at, apart_more, apart_none, gone_none, gone_more}
use Rattle.lab_orders.proofs.Noticing.{firsts_at, none_yet}
use Rattle.lab_orders.specs.Firsts.{AreFirsts}
use Rattle.lab_orders.specs.Fronts.{IsFront}
use Rattle.lab_orders.proofs.exploring.explore.Goals as goal

pub returns-then-count-eq0-clause-counted : goal.returns-then-count-eq0-clause-counted
returns-then-count-eq0-clause-counted g c =
    let w = c.args.world.now in
    counted_at (g.W.World.machine w) (g.W.World.state w) (g.W.World.fits w) (g.W.World.state w c.args.start) c.loop-step.front.steps c.found.result.steps c.loop-step.front.level.nodes.items
    c.loop-step.front.ends.items c.found.result.ends.items c.loop-step.invariant.front c.found.ensures.ends c.found.ensures.steps

pub returns-then-count-eq0-clause-whole : goal.returns-then-count-eq0-clause-whole
returns-then-count-eq0-clause-whole g c = λ whole.
    let w = c.args.world.now in
    whole_at (g.W.World.machine w) (g.W.World.state w) (g.W.World.fits w) (g.W.World.state w c.args.start) c.loop-step.front.steps c.found.result.steps c.loop-step.front.level.nodes.items
    c.loop-step.front.ends.items c.found.result.ends.items c.loop-step.invariant.front c.found.ensures.ends c.found.ensures.steps (c.found.ensures.whole whole)

pub returns-then-count-eq0-clause-led : goal.returns-then-count-eq0-clause-led
returns-then-count-eq0-clause-led g c =
    let w = c.args.world.now in
    led_at (g.W.World.machine w) (g.W.World.state w) (g.W.World.fits w) (g.W.World.state w c.args.start) c.loop-step.front.steps c.found.result.steps c.loop-step.front.level.nodes.items
    c.loop-step.front.ends.items c.found.result.ends.items c.loop-step.invariant.front c.found.ensures.ends c.found.ensures.steps

pub returns-then-count-eq0-clause-over : goal.returns-then-count-eq0-clause-over
returns-then-count-eq0-clause-over g c =
    let w = c.args.world.now in
    over_at (g.W.World.machine w) (g.W.World.state w) (g.W.World.fits w) (g.W.World.state w c.args.start) c.loop-step.front.steps c.found.result.steps c.loop-step.front.level.nodes.items
    c.loop-step.front.ends.items c.found.result.ends.items c.loop-step.invariant.front c.found.ensures.ends c.found.ensures.steps

pub returns-then-count-most-clause-counted : goal.returns-then-count-most-clause-counted
returns-then-count-most-clause-counted g c =
    let w = c.args.world.now in
    counted_at (g.W.World.machine w) (g.W.World.state w) (g.W.World.fits w) (g.W.World.state w c.args.start) c.loop-step.front.steps c.found-then-count-most.result.steps c.loop-step.front.level.nodes.items
    c.loop-step.front.ends.items c.found-then-count-most.result.ends.items c.loop-step.invariant.front c.found-then-count-most.ensures.ends c.found-then-count-most.ensures.steps

pub returns-then-count-most-clause-whole : goal.returns-then-count-most-clause-whole
returns-then-count-most-clause-whole g c = λ whole.
    let w = c.args.world.now in
    whole_at (g.W.World.machine w) (g.W.World.state w) (g.W.World.fits w) (g.W.World.state w c.args.start) c.loop-step.front.steps c.found-then-count-most.result.steps c.loop-step.front.level.nodes.items
    c.loop-step.front.ends.items c.found-then-count-most.result.ends.items c.loop-step.invariant.front c.found-then-count-most.ensures.ends c.found-then-count-most.ensures.steps (c.found-then-count-most.ensures.whole whole)

pub returns-then-count-most-clause-led : goal.returns-then-count-most-clause-led
returns-then-count-most-clause-led g c =
    let w = c.args.world.now in
    led_at (g.W.World.machine w) (g.W.World.state w) (g.W.World.fits w) (g.W.World.state w c.args.start) c.loop-step.front.steps c.found-then-count-most.result.steps c.loop-step.front.level.nodes.items
    c.loop-step.front.ends.items c.found-then-count-most.result.ends.items c.loop-step.invariant.front c.found-then-count-most.ensures.ends c.found-then-count-most.ensures.steps

pub returns-then-count-most-clause-over : goal.returns-then-count-most-clause-over
returns-then-count-most-clause-over g c =
    let w = c.args.world.now in
    over_at (g.W.World.machine w) (g.W.World.state w) (g.W.World.fits w) (g.W.World.state w c.args.start) c.loop-step.front.steps c.found-then-count-most.result.steps c.loop-step.front.level.nodes.items
    c.loop-step.front.ends.items c.found-then-count-most.result.ends.items c.loop-step.invariant.front c.found-then-count-most.ensures.ends c.found-then-count-most.ensures.steps

pub returns-then-count-most-clause-cut : goal.returns-then-count-most-clause-cut
returns-then-count-most-clause-cut g c = λ part.
    let w = c.args.world.now in
    inr (cut_at (g.W.World.machine w) (g.W.World.state w) (g.W.World.fits w) (g.W.World.state w c.args.start) c.loop-step.front.steps c.found-then-count-most.result.steps c.loop-step.front.level.nodes.items
    c.loop-step.front.ends.items c.found-then-count-most.result.ends.items c.loop-step.invariant.front c.found-then-count-most.ensures.ends c.found-then-count-most.ensures.steps c.args.most (omega (arith, c.if-count-most.true, c.len-count.ensures)))

pub returns-clause-counted : goal.returns-clause-counted
returns-clause-counted g c =
    let w = c.args.world.now in
    counted_at (g.W.World.machine w) (g.W.World.state w) (g.W.World.fits w) (g.W.World.state w c.args.start) c.loop-step.front.steps c.found-2.result.steps c.loop-step.front.level.nodes.items
    c.loop-step.front.ends.items c.found-2.result.ends.items c.loop-step.invariant.front c.found-2.ensures.ends c.found-2.ensures.steps

pub returns-clause-whole : goal.returns-clause-whole
returns-clause-whole g c = λ whole.
    let w = c.args.world.now in
    whole_at (g.W.World.machine w) (g.W.World.state w) (g.W.World.fits w) (g.W.World.state w c.args.start) c.loop-step.front.steps c.found-2.result.steps c.loop-step.front.level.nodes.items
    c.loop-step.front.ends.items c.found-2.result.ends.items c.loop-step.invariant.front c.found-2.ensures.ends c.found-2.ensures.steps (c.found-2.ensures.whole whole)

pub returns-clause-led : goal.returns-clause-led
returns-clause-led g c =
    let w = c.args.world.now in
    led_at (g.W.World.machine w) (g.W.World.state w) (g.W.World.fits w) (g.W.World.state w c.args.start) c.loop-step.front.steps c.found-2.result.steps c.loop-step.front.level.nodes.items
    c.loop-step.front.ends.items c.found-2.result.ends.items c.loop-step.invariant.front c.found-2.ensures.ends c.found-2.ensures.steps

pub returns-clause-over : goal.returns-clause-over
returns-clause-over g c =
    let w = c.args.world.now in
    over_at (g.W.World.machine w) (g.W.World.state w) (g.W.World.fits w) (g.W.World.state w c.args.start) c.loop-step.front.steps c.found-2.result.steps c.loop-step.front.level.nodes.items
    c.loop-step.front.ends.items c.found-2.result.ends.items c.loop-step.invariant.front c.found-2.ensures.ends c.found-2.ensures.steps

pub returns-then-count-most-clause-more : goal.returns-then-count-most-clause-more
returns-then-count-most-clause-more g c = λ part.
    let w = c.args.world.now in
    more_at (g.W.World.machine w) (g.W.World.state w) (g.W.World.fits w) (g.W.World.state w c.args.start) c.loop-step.front.steps c.found-then-count-most.result.steps c.loop-step.front.level.nodes.items
    c.loop-step.front.ends.items c.found-then-count-most.result.ends.items c.loop-step.invariant.front c.found-then-count-most.ensures.ends c.found-then-count-most.ensures.steps (omega (arith, c.loop-step.front.level.nodes.ok.0, c.found-then-count-most.ensures.cut part))

pub returns-clause-more : goal.returns-clause-more
returns-clause-more g c = λ part.
    let w = c.args.world.now in
    more_at (g.W.World.machine w) (g.W.World.state w) (g.W.World.fits w) (g.W.World.state w c.args.start) c.loop-step.front.steps c.found-2.result.steps c.loop-step.front.level.nodes.items
    c.loop-step.front.ends.items c.found-2.result.ends.items c.loop-step.invariant.front c.found-2.ensures.ends c.found-2.ensures.steps (omega (arith, c.loop-step.front.level.nodes.ok.0, c.found-2.ensures.cut part))

pub loop-step-init : goal.loop-step-init
loop-step-init g c =
    let w = c.args.world.now in
    record {
      front = c.in-Ok.ensures.front;
      steps = c.in-Ok.ensures.steps;
      firsts = subst (λ (k : ℕ). AreFirsts (g.W.World.machine w) (g.W.World.state w c.args.start) (g.W.World.holds w) k 0 c.in-Ok-no_firsts.firsts.items) (sym c.in-Ok.ensures.steps)
          (none_yet (g.W.World.machine w) (g.W.World.state w c.args.start) (g.W.World.holds w) 0 c.in-Ok-no_firsts.firsts.items c.in-Ok-no_firsts.ensures.none);
      each = c.in-Ok-no_firsts.ensures.count ∙ c.questions.ensures;
      gone = gone_none (g.W.World.machine w) (g.W.World.state w) (g.W.World.state w c.args.start) c.args.most c.in-Ok.front.steps c.in-Ok.front.moments c.in-Ok.ensures.steps c.in-Ok.ensures.moments;
      level = λ whole. c.in-Ok.ensures.apart;
      apart = λ whole. apart_none (g.W.World.machine w) (g.W.World.state w) (g.W.World.state w c.args.start) c.args.most c.in-Ok.front.steps c.in-Ok.front.moments c.in-Ok.ensures.steps c.in-Ok.ensures.moments;
    }

pub loop-step-preserved : goal.loop-step-preserved
loop-step-preserved g c =
    let w = c.args.world.now in
    let level = c.loop-step.front.level.nodes in
    record {
      front = c.in-Ok-next_front.ensures.front (g.W.World.state w c.args.start) c.loop-step.invariant.front;
      steps = omega (arith, c.in-Ok-next_front.ensures.steps, c.loop-step.invariant.steps);
      firsts = subst (λ (k : ℕ). AreFirsts (g.W.World.machine w) (g.W.World.state w c.args.start) (g.W.World.holds w) k 0 c.in-Ok-noticed.firsts.items) (sym c.in-Ok-next_front.ensures.steps)
          (c.in-Ok-noticed.ensures.firsts (g.W.World.state w c.args.start) c.loop-step.front.steps c.loop-step.front.ends.items
          (subst (λ (nodes : List _). IsFront (g.W.World.machine w) (g.W.World.state w) (g.W.World.fits w) (g.W.World.state w c.args.start) c.loop-step.front.steps nodes c.loop-step.front.ends.items)
          (sym c.as_slice.ensures.value) c.loop-step.invariant.front)
          c.loop-step.invariant.firsts);
      each = c.in-Ok-noticed.ensures.count ∙ c.loop-step.invariant.each;
      gone = gone_more (g.W.World.machine w) (g.W.World.state w) (g.W.World.state w c.args.start) c.args.most c.loop-step.front.steps c.loop-step.front.moments
          c.in-Ok-next_front.next.steps c.in-Ok-next_front.next.moments level.items c.loop-step.invariant.gone c.loop-step.invariant.front.reached
          (omega (arith, level.ok.0, c.len-count.ensures, c.if-count-eq0.false)) (omega (arith, level.ok.0, c.len-count.ensures, c.if-count-most.false))
          c.in-Ok-next_front.ensures.steps (omega (arith, level.ok.0, c.in-Ok-next_front.ensures.moments));
      level = c.in-Ok-next_front.ensures.apart;
      apart = λ whole.
          apart_more (g.W.World.machine w) (g.W.World.state w) (g.W.World.state w c.args.start) c.args.most c.loop-step.front.steps c.loop-step.front.moments
          c.in-Ok-next_front.next.steps c.in-Ok-next_front.next.moments level.items (c.loop-step.invariant.apart whole) c.loop-step.invariant.front.reached
          (omega (arith, level.ok.0, c.len-count.ensures, c.if-count-eq0.false)) (omega (arith, level.ok.0, c.len-count.ensures, c.if-count-most.false))
          c.in-Ok-next_front.ensures.steps (omega (arith, level.ok.0, c.in-Ok-next_front.ensures.moments)) (c.loop-step.invariant.level whole);
    }

pub returns-in-Err-next_front-clause-uncounted : goal.returns-in-Err-next_front-clause-uncounted
returns-in-Err-next_front-clause-uncounted g c = λ e. (
  c.loop-step.front.steps + 1,
  omega (arith, c.loop-step-test.true, c.loop-step.invariant.steps),
  c.in-Err-next_front.ensures.uncounted e (g.W.World.state c.args.world.now c.args.start) c.loop-step.invariant.front,
)

pub returns-then-count-eq0-clause-firsts : goal.returns-then-count-eq0-clause-firsts
returns-then-count-eq0-clause-firsts g c =
    let w = c.args.world.now in
    firsts_at (g.W.World.machine w) (g.W.World.state w c.args.start) (g.W.World.holds w) c.loop-step.front.steps c.found.result.steps c.loop-step.firsts.items c.found.result.firsts.items
    c.loop-step.invariant.firsts c.found.ensures.firsts c.found.ensures.steps

pub returns-then-count-most-clause-firsts : goal.returns-then-count-most-clause-firsts
returns-then-count-most-clause-firsts g c =
    let w = c.args.world.now in
    firsts_at (g.W.World.machine w) (g.W.World.state w c.args.start) (g.W.World.holds w) c.loop-step.front.steps c.found-then-count-most.result.steps c.loop-step.firsts.items c.found-then-count-most.result.firsts.items
    c.loop-step.invariant.firsts c.found-then-count-most.ensures.firsts c.found-then-count-most.ensures.steps

pub returns-clause-firsts : goal.returns-clause-firsts
returns-clause-firsts g c =
    let w = c.args.world.now in
    firsts_at (g.W.World.machine w) (g.W.World.state w c.args.start) (g.W.World.holds w) c.loop-step.front.steps c.found-2.result.steps c.loop-step.firsts.items c.found-2.result.firsts.items
    c.loop-step.invariant.firsts c.found-2.ensures.firsts c.found-2.ensures.steps

pub returns-then-count-eq0-clause-apart : goal.returns-then-count-eq0-clause-apart
returns-then-count-eq0-clause-apart g c = λ whole.
    let w = c.args.world.now in
    apart_at (g.W.World.machine w) (g.W.World.state w) (g.W.World.state w c.args.start) c.args.most c.loop-step.front.steps c.loop-step.front.moments c.found.result.steps c.found.result.moments
    c.found.ensures.steps c.found.ensures.moments (c.loop-step.invariant.apart whole)

pub returns-then-count-most-clause-apart : goal.returns-then-count-most-clause-apart
returns-then-count-most-clause-apart g c = λ whole.
    let w = c.args.world.now in
    apart_at (g.W.World.machine w) (g.W.World.state w) (g.W.World.state w c.args.start) c.args.most c.loop-step.front.steps c.loop-step.front.moments c.found-then-count-most.result.steps c.found-then-count-most.result.moments
    c.found-then-count-most.ensures.steps c.found-then-count-most.ensures.moments (c.loop-step.invariant.apart whole)

pub returns-clause-apart : goal.returns-clause-apart
returns-clause-apart g c = λ whole.
    let w = c.args.world.now in
    apart_at (g.W.World.machine w) (g.W.World.state w) (g.W.World.state w c.args.start) c.args.most c.loop-step.front.steps c.loop-step.front.moments c.found-2.result.steps c.found-2.result.moments
    c.found-2.ensures.steps c.found-2.ensures.moments (c.loop-step.invariant.apart whole)
