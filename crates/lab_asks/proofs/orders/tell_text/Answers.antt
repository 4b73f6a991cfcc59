use Rattle.std.proofs.Common.{◌∙◌, ap, codes, inl, inr, map, option_map}
use Rattle.std.specs.Prelude.{unwrap_or}
use Rattle.evl_plans.specs.Told.{handler_of as told_by}
use Rattle.lab_kinds.specs.Kinds.{kind_of}
use Rattle.lab_streams.specs.Endings.{as_orders}
use Rattle.lab_asks.specs.Orders.{AreCallersIn, TellsAsked, TellsText}
use Rattle.lab_asks.proofs.OrderLemmas.{refused_kinded}
use Rattle.lab_streams.proofs.OutputLemmas.{written_as}
use Rattle.lab_asks.proofs.orders.tell_text.Goals as goal

pub returns-in-Ok-clause-writes : goal.returns-in-Ok-clause-writes
returns-in-Ok-clause-writes g c =
    let name = unwrap_or (option_map (λ file. file.now) c.args.asked.now.file) (codes "-") in
    let bank = map told_by c.args.plans.now in
    let most = c.args.asked.now.most in
    let one = c.args.asked.now.shown in
    let text = c.args.text.now in
    let callers : AreCallersIn text c.in-Ok.callers = record { set_up = c.in-Ok.ensures.scenario; each = c.in-Ok.ensures.callers } in
    written_as _ (TellsText bank most one name text) _ _ _ _ (TellsAsked bank most one name c.in-Ok.callers text) c.tell_callers.result (λ output h. inl (c.in-Ok.callers, callers, h)) c.tell_callers.ensures.writes

pub returns-in_ok-kind-in-Err-clause-writes : goal.returns-in_ok-kind-in-Err-clause-writes
returns-in_ok-kind-in-Err-clause-writes g c =
    let name = unwrap_or (option_map (λ file. file.now) c.args.asked.now.file) (codes "-") in
    let text = c.args.text.now in
    let fault = c.in-Err.fault in
    refused_kinded _ (TellsText (map told_by c.args.plans.now) c.args.asked.now.most c.args.asked.now.shown name text) _ _ _ name _ (as_orders (kind_of text)) fault c.tell_text_fault.result
    c.refused.result (c.as_orders.ensures ∙ ap as_orders c.in_ok-kind-in-Err.ensures) (λ output h. inr (fault, c.in-Err.ensures.refused, h)) (rw c.name.ensures at c.tell_text_fault.ensures.text) c.refused.ensures.status
