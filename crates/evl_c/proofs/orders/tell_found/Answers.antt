use Rattle.std.proofs.Common.{None, map}
use Rattle.evl_plans.specs.Told.{handler_of}
use Rattle.evl_c.specs.Orders.{TellsOutcomes, TellsPossible}
use Rattle.evl_c.proofs.OrderLemmas.{answered_as}
use Rattle.evl_c.proofs.orders.tell_found.Goals as goal

pub returns-in_ok-set-in-None : goal.returns-in_ok-set-in-None
returns-in_ok-set-in-None c =
    let bank = map handler_of c.args.wanted.plans.now in
    let most = c.args.wanted.most in
    let one = c.args.wanted.outcome in
    let asks = c.args.ask.now in
    let set = c.in_ok-set-in-None.set in
    rw c.in-None.is (answered_as _ (TellsOutcomes bank most one set asks) (TellsPossible bank most one c.args.callers asks None) c.go_through.result
    (λ a h. (set, c.in_ok-set-in-None.ensures, h)) c.go_through.ensures)
