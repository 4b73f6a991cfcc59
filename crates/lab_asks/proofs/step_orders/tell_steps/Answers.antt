use Rattle.std.proofs.Common.{codes, inl, inr, option_map}
use Rattle.std.specs.Prelude.{unwrap_or}
use Rattle.lab_streams.specs.Endings.{line_about}
use Rattle.lab_asks.specs.StepOrders.{TellsAsked, TellsSteps, steps_fault_words}
use Rattle.lab_streams.proofs.OutputLemmas.{told_of, written_as}
use Rattle.lab_asks.proofs.step_orders.tell_steps.Goals as goal

pub returns-in-Ok-clause-writes : goal.returns-in-Ok-clause-writes
returns-in-Ok-clause-writes g c =
    let name = unwrap_or (option_map (λ file. file.now) c.args.asked.now.file) (codes "-") in
    let most = c.args.asked.now.most in
    let one = c.args.asked.now.shown in
    let text = c.args.text.now in
    let crew = c.in-Ok.crew in
    written_as _ (TellsSteps most one name text) _ _ _ _ (TellsAsked most one name crew text) c.tell_crew.result (λ output h. inl (crew, c.in-Ok.ensures.crew, h)) c.tell_crew.ensures.writes

pub returns-in-Err-clause-writes : goal.returns-in-Err-clause-writes
returns-in-Err-clause-writes g c =
    let name = unwrap_or (option_map (λ file. file.now) c.args.asked.now.file) (codes "-") in
    let fault = c.in-Err.fault in
    told_of _ (TellsSteps c.args.asked.now.most c.args.asked.now.shown name c.args.text.now) _ _ _ (line_about name) (steps_fault_words fault) c.tell_steps_fault.result c.refused.result
    (λ output h. inr (fault, c.in-Err.ensures.refused, h)) (rw c.name.ensures at c.tell_steps_fault.ensures.text) c.refused.ensures.status
