use Rattle.std.proofs.Common.{inl, inr, map}
use Rattle.evl_plans.specs.Told.{handler_of}
use Rattle.evl_c.specs.Orders.{AsksOf, TellsAsked, TellsPossible, impossible_in}
use Rattle.evl_c.proofs.OrderLemmas.{answered_as, refused_words}
use Rattle.evl_c.proofs.orders.tell_callers.Goals as goal

pub returns-in-Ok : goal.returns-in-Ok
returns-in-Ok c =
    let bank = map handler_of c.args.wanted.plans.now in
    let callers = c.args.callers in
    let ask = c.in-Ok.ask in
    let asks : AsksOf c.args.text.now callers ask = record { asked = c.in-Ok.ensures.asks; who = c.in-Ok.ensures.who; watches = c.in-Ok.ensures.watches } in
    answered_as _ (TellsPossible bank c.args.wanted.most c.args.wanted.outcome callers ask (impossible_in callers ask)) (TellsAsked bank c.args.wanted.most c.args.wanted.outcome callers c.args.text.now) c.tell_possible.result
    (λ a h. inl (ask, asks, h)) c.tell_possible.ensures

pub returns-in_ok-words-in-Err : goal.returns-in_ok-words-in-Err
returns-in_ok-words-in-Err c = inr (c.in-Err.fault, c.in-Err.ensures.why, c.in-Err.ensures.placed, refused_words _ _ _ c.in_ok-words-in-Err.ensures c.refuse.ensures)
