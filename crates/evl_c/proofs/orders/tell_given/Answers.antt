use Rattle.std.proofs.Common.{◌≡◌, inl, inr, map, subst, sym}
use Rattle.std.specs.Prelude.{IsSomeAnd}
use Rattle.evl_plans.specs.Told.{handler_of}
use Rattle.lab_lines.specs.Kinds.{IsOfCallers}
use Rattle.evl_c.specs.Orders.{Answer, TellsGiven, TellsText, fault_answer}
use Rattle.evl_c.proofs.OrderLemmas.{answered_as}
use Rattle.evl_c.proofs.orders.tell_given.Goals as goal

pub returns-in-Ok : goal.returns-in-Ok
returns-in-Ok c =
    let bank = map handler_of c.args.wanted.plans.now in
    let text = c.args.text.now in
    let plain = c.as_slice.result.now in
    let is : IsOfCallers text plain = subst (IsOfCallers text) (sym c.as_slice.ensures.value) c.in-Ok.ensures.plain in
    answered_as _ (TellsText bank c.args.wanted.most c.args.wanted.outcome plain) (TellsGiven bank c.args.wanted.most c.args.wanted.outcome text) c.tell_text.result (λ a h. inl (plain, is, h)) c.tell_text.ensures

pub returns-in-Err : goal.returns-in-Err
returns-in-Err c =
    answered_as _ (λ (a : Answer). IsSomeAnd (fault_answer c.in-Err.fault) (λ b. a ≡ b)) (TellsGiven (map handler_of c.args.wanted.plans.now) c.args.wanted.most c.args.wanted.outcome c.args.text.now) c.refuse_fault.result
    (λ a h. inr (c.in-Err.fault, c.in-Err.ensures.unread, h)) c.refuse_fault.ensures
