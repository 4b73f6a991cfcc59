use Rattle.std.proofs.Common.{arith, sym, subst}
use Rattle.std.proofs.lemmas.Grind.{common_steps}
use Rattle.std.proofs.lemmas.List.Elements.{All-push}
use Rattle.lab_scenario_orders.specs.Asks.{AreOfCallers, IsAnswerOf}
use Rattle.lab_scenario_orders.specs.declared.asks.AskKey.TheVariants as key
use Rattle.lab_scenario_orders.proofs.AskFaultLaws.{bad_list}
use Rattle.lab_scenario_orders.proofs.nevers.read_all.Goals as goal

pub loop-i-preserved : goal.loop-i-preserved
loop-i-preserved c =
    let callers = c.args.callers.now.callers.items in
    record {
      texts = grind (arith, common_steps);
      who = subst (AreOfCallers callers) (sym c.in-Ok-push.ensures.items) (All-push (IsAnswerOf callers) c.loop-i.all.items c.in-Ok.never c.loop-i.invariant.who c.in-Ok.ensures.who);
    }

pub returns-in-Err-clause-bad : goal.returns-in-Err-clause-bad
returns-in-Err-clause-bad c =
    bad_list c.args.callers.now.callers.items c.args.callers.now.board key.Never c.args.values.now c.loop-i.i c.index-values-i.result _ c.in-Err.fault
    (omega (arith, c.loop-i-test.true)) c.index-values-i.is c.in-Err.ensures.bad
