use Rattle.std.proofs.Common.{sym}
use Rattle.lab_scenario_orders.specs.Moments.{seen_at}
use Rattle.lab_scenario_orders.proofs.HeldLaws.{held_back}
use Rattle.lab_scenario_orders.proofs.worlds.stepped_on.Goals as goal

pub returns-then-is_known_held-clause-next : goal.returns-then-is_known_held-clause-next
returns-then-is_known_held-clause-next g c =
    let callers = c.args.callers.now in
    let moment = c.args.moment.now in
    sym (held_back callers (seen_at callers (g.B.BankMaker.bank c.args.bank.now) moment) moment.held.items c.args.caller c.args.step.now c.requires.fits.held
    (c.is_known_held.ensures.thread c.if-is_known_held.true) (c.is_known_held.ensures.held c.if-is_known_held.true))
