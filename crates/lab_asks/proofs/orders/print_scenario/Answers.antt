use Rattle.std.proofs.Common.{◌∙◌, ap, List, ℕ, OnOk, subst}
use Rattle.std.specs.Io.KnownBytes.{Appends}
use Rattle.lab_asks.specs.Orders.{order_of}
use Rattle.lab_asks.proofs.OrderLemmas.{scenario_is}
use Rattle.lab_asks.proofs.orders.print_scenario.Goals as goal

pub returns-clause-text : goal.returns-clause-text
returns-clause-text g c =
    let callers = c.args.callers.now in
    subst (λ (l : List ℕ). OnOk c.print_order.result (Appends (g.O.Stream.contents c.args.out.now) (g.O.Stream.contents c.print_order.new.out) l))
    (ap (λ (order : List ℕ). order_of callers order) c.as_slice.ensures.value ∙ scenario_is callers c.args.outcome.now) c.print_order.ensures.text
