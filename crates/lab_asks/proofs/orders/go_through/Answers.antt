use Rattle.std.proofs.Common.{codes, map, option_map}
use Rattle.std.specs.Prelude.{unwrap_or}
use Rattle.evl_plans.specs.Told.{handler_of as told_by}
use Rattle.lab_asks.specs.Orders.{TellsOutcomes}
use Rattle.lab_asks.specs.Outcomes.{TellsAll}
use Rattle.lab_asks.specs.declared.orders.View.TheVariants as view
use Rattle.lab_streams.specs.declared.words.Shown.TheVariants.{Report, Json, Outcome, State, Answers}
use Rattle.lab_streams.proofs.OutputLemmas.{written_as}
use Rattle.lab_asks.proofs.orders.go_through.Goals as goal

pub returns-in-Report-clause-writes : goal.returns-in-Report-clause-writes
returns-in-Report-clause-writes g c =
    let name = unwrap_or (option_map (λ file. file.now) c.args.asked.now.file) (codes "-") in
    let bank = map told_by c.args.plans.now in
    let most = c.args.asked.now.most in
    rw c.in-Report.is (written_as _ (TellsOutcomes bank most Report name c.args.callers.now c.args.ask.now) _ _ _ _ (TellsAll bank most view.Report name c.args.callers.now c.args.ask.now)
    c.go_through_all.result (λ output h. h) c.go_through_all.ensures.writes)

pub returns-in-Json-clause-writes : goal.returns-in-Json-clause-writes
returns-in-Json-clause-writes g c =
    let name = unwrap_or (option_map (λ file. file.now) c.args.asked.now.file) (codes "-") in
    let bank = map told_by c.args.plans.now in
    let most = c.args.asked.now.most in
    rw c.in-Json.is (written_as _ (TellsOutcomes bank most Json name c.args.callers.now c.args.ask.now) _ _ _ _ (TellsAll bank most view.Json name c.args.callers.now c.args.ask.now)
    c.go_through_all-in-Json.result (λ output h. h) c.go_through_all-in-Json.ensures.writes)

pub returns-in-Answers-clause-writes : goal.returns-in-Answers-clause-writes
returns-in-Answers-clause-writes g c =
    let name = unwrap_or (option_map (λ file. file.now) c.args.asked.now.file) (codes "-") in
    let bank = map told_by c.args.plans.now in
    let most = c.args.asked.now.most in
    rw c.in-Answers.is (written_as _ (TellsOutcomes bank most Answers name c.args.callers.now c.args.ask.now) _ _ _ _ (TellsAll bank most view.Answers name c.args.callers.now c.args.ask.now)
    c.go_through_all-in-Answers.result (λ output h. h) c.go_through_all-in-Answers.ensures.writes)

pub returns-in-Outcome-clause-writes : goal.returns-in-Outcome-clause-writes
returns-in-Outcome-clause-writes g c =
    let name = unwrap_or (option_map (λ file. file.now) c.args.asked.now.file) (codes "-") in
    let bank = map told_by c.args.plans.now in
    let most = c.args.asked.now.most in
    rw c.in-Outcome.is (written_as _ (TellsOutcomes bank most (Outcome c.in-Outcome.number) name c.args.callers.now c.args.ask.now) _ _ _ _ (TellsAll bank most (view.Outcome c.in-Outcome.number) name c.args.callers.now c.args.ask.now)
    c.go_through_all-in-Outcome.result (λ output h. h) c.go_through_all-in-Outcome.ensures.writes)

pub returns-in-State-clause-writes : goal.returns-in-State-clause-writes
returns-in-State-clause-writes g c =
    let name = unwrap_or (option_map (λ file. file.now) c.args.asked.now.file) (codes "-") in
    let bank = map told_by c.args.plans.now in
    let most = c.args.asked.now.most in
    rw c.in-State.is (written_as _ (TellsOutcomes bank most (State c.in-State.number) name c.args.callers.now c.args.ask.now) _ _ _ _ (TellsAll bank most (view.State c.in-State.number) name c.args.callers.now c.args.ask.now)
    c.go_through_all-in-State.result (λ output h. h) c.go_through_all-in-State.ensures.writes)
