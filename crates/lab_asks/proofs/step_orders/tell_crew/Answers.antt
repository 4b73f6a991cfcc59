use Rattle.std.proofs.Common.{Bool, List, ℕ, codes, inl, inr, option_map, subst}
use Rattle.std.specs.Prelude.{unwrap_or}
use Rattle.lab_asks.specs.Asks.{ask_fault_line}
use Rattle.lab_asks.specs.StepOrders.{TellsAsked, TellsUnpicked}
use Rattle.lab_streams.proofs.OutputLemmas.{told_of, written_as}
use Rattle.lab_asks.proofs.step_orders.tell_crew.Goals as goal

pub returns-in-Ok-clause-writes : goal.returns-in-Ok-clause-writes
returns-in-Ok-clause-writes g c =
    let name = unwrap_or (option_map (λ file. file.now) c.args.asked.now.file) (codes "-") in
    let most = c.args.asked.now.most in
    let one = c.args.asked.now.shown in
    let crew = c.args.crew.now in
    let ask = c.in-Ok.ask in
    written_as _ (TellsAsked most one name crew c.args.text.now) _ _ _ _ (TellsUnpicked most one name crew ask c.asks_whole.result) c.tell_unpicked.result
    (λ output h. inl (ask, c.in-Ok.ensures.asks, subst (λ (b : Bool). TellsUnpicked most one name crew ask b output) c.asks_whole.ensures h)) c.tell_unpicked.ensures.writes

pub returns-in-Err-clause-writes : goal.returns-in-Err-clause-writes
returns-in-Err-clause-writes g c =
    let name = unwrap_or (option_map (λ file. file.now) c.args.asked.now.file) (codes "-") in
    told_of _ (TellsAsked c.args.asked.now.most c.args.asked.now.shown name c.args.crew.now c.args.text.now) _ _ _ (λ (l : List ℕ). l) (ask_fault_line name c.in-Err.fault)
    c.tell_ask_fault-told.result c.refused.result (λ output h. inr (c.in-Err.fault, c.in-Err.ensures.why, c.in-Err.ensures.placed, h)) (rw c.name.ensures at c.tell_ask_fault-told.ensures.text) c.refused.ensures.status
