use Rattle.std.proofs.Common.{arith}
use Rattle.lab_reports.proofs.EventLaws.{events_more}
use Rattle.lab_reports.proofs.events.put_marks.Goals as goal

pub loop-index-preserved : goal.loop-index-preserved
loop-index-preserved c =
    events_more c.args.marks.now c.loop-index.index _ _ _ _ _ _ _ _ (omega arith) c.in_ok-put_names.ensures.text c.in_ok-put_names.ensures.noted
    c.in_ok-put_event.ensures c.in_ok-put_wait.ensures c.loop-index.invariant
