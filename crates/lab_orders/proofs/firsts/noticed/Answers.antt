use Rattle.std.proofs.Common.{arith}
use Rattle.lab_orders.proofs.Noticing.{one_left, one_question}
use Rattle.lab_orders.proofs.firsts.noticed.Goals as goal

pub loop-first-preserved : goal.loop-first-preserved
loop-first-preserved g c =
    let w = c.args.world.now in
    let done = c.loop-first.all in
    let rest = c.loop-first.first-iterator.rest.items in
    let others = c.next.new.self.rest.items in
    record {
      count = one_left done.items rest others c.push.new.self.items c.args.firsts.items c.in-Some.first c.in_ok-found.found c.loop-first.invariant.count c.in-Some.ensures.steps.0 c.in_ok-push.ensures.items;
      told = λ s k ends front was.
          one_question (g.W.World.machine w) s (g.W.World.holds w) k c.len-question.result done.items rest others c.push.new.self.items c.in-Some.first c.in_ok-found.found
          (omega (arith, c.len-question.ensures, done.ok.0)) c.in-Some.ensures.steps.0 c.in_ok-push.ensures.items (c.in_ok-found.ensures s k ends front)
          (c.loop-first.invariant.told s k ends front was);
    }

pub returns-clause-firsts : goal.returns-clause-firsts
returns-clause-firsts g c = λ s k ends front was. (c.loop-first.invariant.told s k ends front was).0
