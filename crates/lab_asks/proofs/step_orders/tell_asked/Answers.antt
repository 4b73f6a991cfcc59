use Rattle.std.proofs.Common.{IfOk, Option, codes, option_map, subst}
use Rattle.std.specs.Prelude.{unwrap_or}
use Rattle.lab_scenario_orders.specs.declared.asks.Never.{Never}
use Rattle.lab_asks.specs.StepOrders.{TellsPossible}
use Rattle.lab_streams.specs.Outputs.{Writes}
use Rattle.lab_asks.proofs.step_orders.tell_asked.Goals as goal

pub returns-clause-writes : goal.returns-clause-writes
returns-clause-writes g c =
    let name = unwrap_or (option_map (λ file. file.now) c.args.asked.now.file) (codes "-") in
    subst (λ (o : Option Never). IfOk c.tell_possible.result (Writes (TellsPossible c.args.asked.now.most c.args.asked.now.shown name c.args.crew.now c.args.ask.now o)
    (g.O.Stream.contents c.args.out.now) (g.O.Stream.contents c.tell_possible.new.out) (g.E.Stream.contents c.args.err.now) (g.E.Stream.contents c.tell_possible.new.err))) c.in_ok-found.ensures.found c.tell_possible.ensures.writes
