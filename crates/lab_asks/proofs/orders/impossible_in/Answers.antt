use Rattle.std.proofs.Common.{◌∙◌}
use Rattle.lab_asks.proofs.OrderLemmas.{impossible_is}
use Rattle.lab_asks.proofs.orders.impossible_in.Goals as goal

pub returns-in-Ok-clause-found : goal.returns-in-Ok-clause-found
returns-in-Ok-clause-found c = c.in-Ok.ensures ∙ impossible_is c.args.callers.now c.args.ask.now
