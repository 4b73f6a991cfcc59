use Rattle.std.proofs.Common.{◌≡◌, List, codes, inl, inr, map, option_map, subst, ℕ}
use Rattle.std.specs.Prelude.{unwrap_or}
use Rattle.evl_plans.specs.Told.{handler_of as told_by}
use Rattle.lab_streams.specs.Endings.{line_about}
use Rattle.lab_asks.specs.OneOrder.{TellsMade, TellsOrder, order_fault_words}
use Rattle.lab_streams.proofs.OutputLemmas.{said_of, written_as}
use Rattle.lab_asks.proofs.one_order.tell_order.Goals as goal

pub returns-in-Ok-clause-writes : goal.returns-in-Ok-clause-writes
returns-in-Ok-clause-writes g c =
    let name = unwrap_or (option_map (λ file. file.now) c.args.asked.now.file) (codes "-") in
    let bank = map told_by c.args.bank.now.plans.now in
    let callers = c.args.callers.now in
    let order = c.in-Ok.order.items in
    written_as _ (TellsOrder bank c.args.text.now name callers) _ _ _ _ (TellsMade bank name callers c.as_slice.result.now) c.tell_made.result
    (λ output h. inl (order, c.in-Ok.ensures.names, subst (λ (l : List ℕ). TellsMade bank name callers l output) c.as_slice.ensures.value h)) c.tell_made.ensures.writes

pub returns-in-Err-clause-writes : goal.returns-in-Err-clause-writes
returns-in-Err-clause-writes g c =
    let name = unwrap_or (option_map (λ file. file.now) c.args.asked.now.file) (codes "-") in
    let callers = c.args.callers.now in
    said_of _ (TellsOrder (map told_by c.args.bank.now.plans.now) c.args.text.now name callers) _ _ _ (line_about name) (order_fault_words c.in-Err.fault) c.tell_order_fault.result
    (λ output says. inr (c.in-Err.fault, c.in-Err.ensures.unread, says)) (rw c.name.ensures at c.tell_order_fault.ensures.line) c.tell_order_fault.ensures.status
