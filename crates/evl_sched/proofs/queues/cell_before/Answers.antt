use Rattle.std.proofs.Common.{◌∙◌, sym}
use Rattle.evl_sched.proofs.BeforeLaws.{before-reached, first-reached}
use Rattle.evl_sched.proofs.queues.cell_before.Goals as goal

pub returns-then-is_linked : goal.returns-then-is_linked
returns-then-is_linked g c = record { cell = first-reached _ _ c.args.queue c.args.thread (sym c.first_in.ensures.first ∙ c.is_linked.ensures.linked c.if-is_linked.true) }

pub returns-then-is_next : goal.returns-then-is_next
returns-then-is_next g c =
    let next = c.is_next.ensures.next c.if-is_next.true in
    record { cell = c.cell_of.ensures.cell ∙ before-reached _ _ _ c.requires.queued c.args.queue c.requires.low _ c.args.thread next.0 next.1 }
