use Rattle.std.proofs.Common.{arith, sym, subst}
use Rattle.std.proofs.lemmas.Grind.{common_steps}
use Rattle.std.proofs.lemmas.List.Elements.{All-push}
use Rattle.lab_scenario_orders.specs.AskFaults.{key_of}
use Rattle.lab_scenario_orders.specs.Watches.{AreWatches, IsWatch}
use Rattle.lab_scenario_orders.proofs.AskFaultLaws.{bad_list}
use Rattle.lab_scenario_orders.proofs.watch_texts.read_values.Goals as goal

pub loop-i-preserved : goal.loop-i-preserved
loop-i-preserved c =
    let board = c.args.board.now in
    record {
      texts = grind (arith, common_steps);
      when = grind (arith, common_steps);
      are = subst (AreWatches board) (sym c.in-Ok-push.ensures.items) (All-push (IsWatch board) c.loop-i.all.items c.in-Ok.watch c.loop-i.invariant.are c.in-Ok.ensures.is);
    }

pub returns-in-Err-clause-bad : goal.returns-in-Err-clause-bad
returns-in-Err-clause-bad c = λ callers.
    bad_list callers c.args.board.now (key_of c.args.when) c.args.values.now c.loop-i.i c.index-values-i.result _ c.in-Err.fault
    (omega (arith, c.loop-i-test.true)) c.index-values-i.is (c.in-Err.ensures.bad callers)
