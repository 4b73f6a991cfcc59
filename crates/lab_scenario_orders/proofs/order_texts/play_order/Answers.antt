use Rattle.std.proofs.Common.{◌≡◌, Some, subst}
use Rattle.lab_orders.specs.Machines.{led_along}
use Rattle.lab_scenario_orders.specs.Callers.{Seen, machine}
use Rattle.lab_scenario_orders.specs.Moments.{seen_at}
use Rattle.lab_scenario_orders.proofs.order_texts.play_order.Goals as goal

pub returns-in-Ok-scenario_of-clause-made : goal.returns-in-Ok-scenario_of-clause-made
returns-in-Ok-scenario_of-clause-made g c =
    let callers = c.args.callers.now in
    let there = seen_at callers (g.B.BankMaker.bank c.args.bank.now) c.in-Ok-To.field-0-0 in
    let leads = (rw c.in-Ok-To.field-0-is at c.in-Ok-To.ensures) in
    (there, subst (λ (s : Seen). led_along (machine callers) s c.args.order.now ≡ Some there) c.in-Ok.ensures.start leads)
