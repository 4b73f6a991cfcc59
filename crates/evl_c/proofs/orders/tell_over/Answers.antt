use Rattle.std.proofs.Common.{◌∙◌, ◌≡◌, List, ap, map, subst}
use Rattle.evl_kernel.specs.state.States.{Handler}
use Rattle.evl_plans.specs.Told as callbacks
use Rattle.evl_plans.specs.declared.planned.Planned.{Planned}
use Rattle.evl_c.specs.Orders.{Answer, TellsGiven}
use Rattle.evl_c.proofs.OrderLemmas.{answered_as}
use Rattle.evl_c.proofs.orders.tell_over.Goals as goal

pub returns : goal.returns
returns c =
    let most = c.args.most in
    let one = c.args.outcome in
    let text = c.args.text.now in
    let same = ap (λ (plans : List Planned). map callbacks.handler_of plans) c.as_slice.ensures.value ∙ c.in_ok-read.ensures.plans in
    answered_as _ (TellsGiven (map callbacks.handler_of c.as_slice.result.now) most one text) _ c.tell_given.result
    (λ a h. subst (λ (bank : List Handler). TellsGiven bank most one text a) same h) c.tell_given.ensures
