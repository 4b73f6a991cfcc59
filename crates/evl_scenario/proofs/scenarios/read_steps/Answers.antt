use Rattle.evl_scenario.proofs.StepLemmas.{one_more}
use Rattle.evl_scenario.proofs.scenarios.read_steps.Goals as goal

pub loop-i-preserved : goal.loop-i-preserved
loop-i-preserved c =
    one_more c.args.values.now c.loop-i.i c.index-values-i.result c.loop-i.steps.items c.push.new.self.items c.in-Some.step _
    c.loop-i-test.true c.index-values-i.is c.in-Some.ensures c.in-Ok.ensures.items c.loop-i.invariant
