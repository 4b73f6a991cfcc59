use Rattle.std.proofs.Common.{arith}
use Rattle.evl_plans.proofs.RowLaws.{one_row}
use Rattle.evl_plans.proofs.rows.read_rows.Goals as goal

pub loop-i-preserved : goal.loop-i-preserved
loop-i-preserved c = record {
  rest = one_row c.args.values.now c.loop-i.i c.index-values-i.result c.loop-i.rows.items c.push.new.self.items c.in-Some.row _
      c.loop-i-test.true c.index-values-i.is c.in-Some.ensures.row c.push.ensures.items c.loop-i.invariant.rest;
  few = omega (arith, c.push.ensures.len, c.loop-i.invariant.few);
}
