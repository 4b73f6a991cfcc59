use Rattle.std.proofs.Common.{arith, sym}
use Rattle.lab_step_orders.specs.Moments.{seen_of}
use Rattle.lab_step_orders.proofs.ReportLaws.{no_turn_behind}
use Rattle.lab_step_orders.proofs.reports.turn_of.Goals as goal

pub returns-else-caller-count-clause-turn : goal.returns-else-caller-count-clause-turn
returns-else-caller-count-clause-turn c =
    sym (no_turn_behind c.args.crew.now (seen_of c.args.crew.now c.args.moment.now) c.args.caller c.requires.places c.requires.core (omega (arith, c.count.ensures, c.if-caller-count.false)))
