use Rattle.evl_sched.specs.Queues.{is_before}
use Rattle.evl_sched.proofs.BeforeLaws.{marked-first}
use Rattle.evl_sched.proofs.QueuedLaws.{put-call, put-within}
use Rattle.evl_sched.proofs.queues.Queues.put.Goals as goal

pub link_in-requires-clause-cell : goal.link_in-requires-clause-cell
link_in-requires-clause-cell g c =
    put-within _ _ _ c.self.invariant c.queue_of-queue.result c.queue_of-queue.ensures.within (is_before c.self.inside.places.items c.args.place) _ c.cell_from-cell.ensures.cell

pub invariant_of-self : goal.invariant_of-self
invariant_of-self g c =
    let there = rw (← c.self.view_is) at c.requires.there in
    let free = rw (← c.self.view_is) at c.requires.free in
    put-call _ _ _ c.self.invariant c.args.thread c.args.place there free _ c.queue_of-queue.ensures.queue _ c.cell_from-cell.ensures.cell _ c.link_in.ensures.linked _ c.set_mark.ensures.added c.set_mark.ensures.others

pub set_mark-requires-clause-marked : goal.set_mark-requires-clause-marked
set_mark-requires-clause-marked g c = marked-first _ _ _ c.self.invariant _ c.queue_of-queue.ensures.within _ c.first_in-first.ensures.first
