use Rattle.std.proofs.Common.{◌∙◌, ap, sym}
use Rattle.lab_scenario_orders.proofs.asking_alone.next_kept.Goals as goal

pub returns-in-Ok-clause-fits : goal.returns-in-Ok-clause-fits
returns-in-Ok-clause-fits g c =
    c.in-Ok.ensures.noted c.args.callers.now (g.B.BankMaker.bank c.args.bank.now) c.args.watches.now (rw c.in-Ok-Some.field-0-is at c.in-Ok-Some.ensures.fits)

pub returns-in-Ok-clause-hand : goal.returns-in-Ok-clause-hand
returns-in-Ok-clause-hand g c =
    rw (c.in-Ok.ensures.hand, c.in-Ok.ensures.trail) (rw c.in-Ok-Some.field-0-is at c.in-Ok-Some.ensures.hand)
