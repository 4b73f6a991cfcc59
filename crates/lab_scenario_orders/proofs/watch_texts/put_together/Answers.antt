use Rattle.std.proofs.lemmas.List.Elements.{All-append, All-same}
use Rattle.std.proofs.Common.{◌++◌}
use Rattle.lab_scenario_orders.specs.Watches.{IsWatch}
use Rattle.lab_scenario_orders.proofs.watch_texts.put_together.Goals as goal

pub returns-in-Ok-clause-are : goal.returns-in-Ok-clause-are
returns-in-Ok-clause-are c = λ board one other.
    All-same (IsWatch board) c.in-Ok.all.items (c.args.watches.items ++ c.args.others.items) c.in-Ok.ensures.items (All-append (IsWatch board) c.args.watches.items c.args.others.items one other)
