use Rattle.std.proofs.Common.{None, Some, codes, map, option_map, refl}
use Rattle.std.specs.Prelude.{unwrap_or}
use Rattle.evl_plans.specs.Told.{handler_of as told_by}
use Rattle.lab_scenario_orders.specs.Answers.{near_answer}
use Rattle.lab_asks.specs.Orders.{TellsOutcomes, TellsPossible, impossible_text}
use Rattle.lab_streams.proofs.OutputLemmas.{said, written_as}
use Rattle.lab_asks.proofs.orders.tell_found.Goals as goal

pub returns-in_ok-set-in-None-clause-writes : goal.returns-in_ok-set-in-None-clause-writes
returns-in_ok-set-in-None-clause-writes g c =
    let name = unwrap_or (option_map (λ file. file.now) c.args.asked.now.file) (codes "-") in
    let bank = map told_by c.args.plans.now in
    let most = c.args.asked.now.most in
    let one = c.args.asked.now.shown in
    let asks = c.args.ask.now in
    rw c.in-None.is (written_as _ (TellsPossible bank most one name c.args.callers asks None) _ _ _ _ (TellsOutcomes bank most one name c.in_ok-set-in-None.set asks) c.go_through.result
    (λ output h. (c.in_ok-set-in-None.set, c.in_ok-set-in-None.ensures.set, h)) c.go_through.ensures.writes)

pub returns-in-Some-clause-writes : goal.returns-in-Some-clause-writes
returns-in-Some-clause-writes g c =
    let name = unwrap_or (option_map (λ file. file.now) c.args.asked.now.file) (codes "-") in
    let callers = c.args.callers in
    let never = c.in-Some.never.now in
    rw c.in-Some.is (said _ (TellsPossible (map told_by c.args.plans.now) c.args.asked.now.most c.args.asked.now.shown name callers c.args.ask.now (Some never)) _ _ _ 2 (impossible_text name never (near_answer callers.steps.items never))
    c.tell_impossible.result refl (rw c.name.ensures at c.tell_impossible.ensures.line) c.tell_impossible.ensures.status)
