use Rattle.std.proofs.Common.{IfOk, Option, map, subst}
use Rattle.evl_plans.specs.Told.{handler_of}
use Rattle.lab_scenario_orders.specs.declared.asks.Never.{Never}
use Rattle.evl_c.specs.Orders.{TellsPossible, answer_in}
use Rattle.evl_c.proofs.orders.tell_possible.Goals as goal

pub returns : goal.returns
returns c =
    subst (λ (o : Option Never). IfOk c.tell_found.result (λ told. TellsPossible (map handler_of c.args.wanted.plans.now) c.args.wanted.most c.args.wanted.outcome c.args.callers c.args.ask.now o (answer_in told)))
    c.in_ok-found.ensures c.tell_found.ensures
