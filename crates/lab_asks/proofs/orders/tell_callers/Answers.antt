use Rattle.std.proofs.Common.{List, ℕ, codes, inl, inr, map, option_map}
use Rattle.std.specs.Prelude.{unwrap_or}
use Rattle.evl_plans.specs.Told.{handler_of as told_by}
use Rattle.lab_asks.specs.Orders.{AsksOf, TellsAsked, TellsPossible, ask_fault_line, impossible_in}
use Rattle.lab_streams.proofs.OutputLemmas.{told_of, written_as}
use Rattle.lab_asks.proofs.orders.tell_callers.Goals as goal

pub returns-in-Ok-clause-writes : goal.returns-in-Ok-clause-writes
returns-in-Ok-clause-writes g c =
    let name = unwrap_or (option_map (λ file. file.now) c.args.asked.now.file) (codes "-") in
    let bank = map told_by c.args.plans.now in
    let most = c.args.asked.now.most in
    let one = c.args.asked.now.shown in
    let callers = c.args.callers in
    let ask = c.in-Ok.ask in
    let asks : AsksOf c.args.text.now callers ask = record { asked = c.in-Ok.ensures.asks; who = c.in-Ok.ensures.who; watches = c.in-Ok.ensures.watches } in
    written_as _ (TellsAsked bank most one name callers c.args.text.now) _ _ _ _ (TellsPossible bank most one name callers ask (impossible_in callers ask)) c.tell_possible.result (λ output h. inl (ask, asks, h))
    c.tell_possible.ensures.writes

pub returns-in-Err-clause-writes : goal.returns-in-Err-clause-writes
returns-in-Err-clause-writes g c =
    let name = unwrap_or (option_map (λ file. file.now) c.args.asked.now.file) (codes "-") in
    told_of _ (TellsAsked (map told_by c.args.plans.now) c.args.asked.now.most c.args.asked.now.shown name c.args.callers c.args.text.now) _ _ _ (λ (l : List ℕ). l) (ask_fault_line name c.in-Err.fault)
    c.tell_ask_fault-told.result c.refused.result (λ output h. inr (c.in-Err.fault, c.in-Err.ensures.why, c.in-Err.ensures.placed, h)) (rw c.name.ensures at c.tell_ask_fault-told.ensures.text) c.refused.ensures.status
