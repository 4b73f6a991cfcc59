use Rattle.std.proofs.Common.{codes, map, option_map}
use Rattle.std.specs.Prelude.{unwrap_or}
use Rattle.evl_plans.specs.Told.{handler_of as told_by}
use Rattle.lab_asks.specs.Orders.{TellsGiven}
use Rattle.lab_streams.proofs.OutputLemmas.{of_read, of_unread}
use Rattle.lab_asks.proofs.orders.tell_file.Goals as goal

pub returns-in-Ok-clause-writes : goal.returns-in-Ok-clause-writes
returns-in-Ok-clause-writes g c =
    let name = unwrap_or (option_map (λ file. file.now) c.args.asked.now.file) (codes "-") in
    of_read _ (TellsGiven (map told_by c.args.plans.now) c.args.asked.now.most c.args.asked.now.shown name) name _ _ _ _ _ _ c.in-Ok.text.items c.tell_given.result
    c.in-Ok.ensures.bound c.in-Ok.ensures.input c.tell_given.ensures.writes

pub returns-in-Err-clause-writes : goal.returns-in-Err-clause-writes
returns-in-Err-clause-writes g c =
    let name = unwrap_or (option_map (λ file. file.now) c.args.asked.now.file) (codes "-") in
    of_unread _ (TellsGiven (map told_by c.args.plans.now) c.args.asked.now.most c.args.asked.now.shown name) name _ _ _ _ _ c.in-Err.why c.tell_unread.result c.refused.result
    c.in-Err.ensures.long (rw c.name.ensures at c.tell_unread.ensures.line) c.refused.ensures.status
