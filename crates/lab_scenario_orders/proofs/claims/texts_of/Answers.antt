use Rattle.std.proofs.Common.{rules}
use Rattle.lab_scenario_orders.proofs.WatchLaws.{parted_more, parts_more}
use Rattle.lab_scenario_orders.proofs.claims.texts_of.Goals as goal

pub loop-one-preserved : goal.loop-one-preserved
loop-one-preserved c = (
  search rules,
  parts_more c.loop-one.texts.items c.push.new.self.items c.in-Some.one c.loop-one.rest.now c.in-Some.behind.now c.args.text.now c.in_ok-push.ensures.items c.in-Some.ensures.written c.loop-one.invariant.1,
  parted_more c.loop-one.texts.items c.push.new.self.items c.in-Some.one c.in_ok-push.ensures.items c.in-Some.ensures.first c.loop-one.invariant.2,
)

pub returns-clause-parted : goal.returns-clause-parted
returns-clause-parted c = parted_more c.loop-one.texts.items c.push-2.new.self.items c.loop-one.rest c.in_ok-push-2.ensures.items c.in_default.ensures.none c.loop-one.invariant.2
