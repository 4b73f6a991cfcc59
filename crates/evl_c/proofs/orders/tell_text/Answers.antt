use Rattle.std.proofs.Common.{◌≡◌, inl, inr, map}
use Rattle.evl_plans.specs.Told.{handler_of}
use Rattle.std.specs.Prelude.{IsSomeAnd}
use Rattle.evl_c.specs.Orders.{Answer, AreCallersIn, TellsAsked, TellsText, text_answer}
use Rattle.evl_c.proofs.OrderLemmas.{answered_as}
use Rattle.evl_c.proofs.orders.tell_text.Goals as goal

pub returns-in-Ok : goal.returns-in-Ok
returns-in-Ok c =
    let bank = map handler_of c.args.wanted.plans.now in
    let text = c.args.text.now in
    let callers = c.in-Ok.callers in
    let are : AreCallersIn text callers = record { set_up = c.in-Ok.ensures.scenario; each = c.in-Ok.ensures.callers } in
    answered_as _ (TellsAsked bank c.args.wanted.most c.args.wanted.outcome callers text) (TellsText bank c.args.wanted.most c.args.wanted.outcome text) c.tell_callers.result (λ a h. inl (callers, are, h)) c.tell_callers.ensures

pub returns-in-Err : goal.returns-in-Err
returns-in-Err c =
    answered_as _ (λ (a : Answer). IsSomeAnd (text_answer c.in-Err.fault) (λ b. a ≡ b)) (TellsText (map handler_of c.args.wanted.plans.now) c.args.wanted.most c.args.wanted.outcome c.args.text.now) c.refuse_text.result
    (λ a h. inr (c.in-Err.fault, c.in-Err.ensures.refused, h)) c.refuse_text.ensures
