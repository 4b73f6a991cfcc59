use Rattle.std.proofs.Common.{IfOk, Option, codes, map, option_map, subst}
use Rattle.std.specs.Prelude.{unwrap_or}
use Rattle.evl_plans.specs.Told.{handler_of as told_by}
use Rattle.lab_scenario_orders.specs.declared.asks.Never.{Never}
use Rattle.lab_asks.specs.Orders.{TellsPossible}
use Rattle.lab_streams.specs.Outputs.{Writes}
use Rattle.lab_asks.proofs.orders.tell_possible.Goals as goal

pub returns-clause-writes : goal.returns-clause-writes
returns-clause-writes g c =
    let name = unwrap_or (option_map (λ file. file.now) c.args.asked.now.file) (codes "-") in
    let bank = map told_by c.args.plans.now in
    subst (λ (o : Option Never). IfOk c.tell_found.result (Writes (TellsPossible bank c.args.asked.now.most c.args.asked.now.shown name c.args.callers c.args.ask.now o)
    (g.O.Stream.contents c.args.out.now) (g.O.Stream.contents c.tell_found.new.out) (g.E.Stream.contents c.args.err.now) (g.E.Stream.contents c.tell_found.new.err))) c.in_ok-found.ensures.found c.tell_found.ensures.writes
