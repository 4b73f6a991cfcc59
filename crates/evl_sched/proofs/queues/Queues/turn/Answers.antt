use Rattle.std.proofs.Common.{arith}
use Rattle.evl_sched.proofs.TurnLaws.{last-within, turned}
use Rattle.evl_sched.proofs.queues.Queues.turn.Goals as goal

pub link_out-requires-clause-cell : goal.link_out-requires-clause-cell
link_out-requires-clause-cell g c = omega (arith, c.self.invariant.long, c.queue_of-queue.ensures.within)

pub link_in-requires-clause-cell : goal.link_in-requires-clause-cell
link_in-requires-clause-cell g c =
    let there = rw (← c.self.view_is) at c.requires.there in
    let front = c.can_turn.ensures.first c.if-not-can_turn.false in
    let back = c.can_turn.ensures.last c.if-not-can_turn.false in
    rw (c.link_out.ensures.linked, c.cell_of.ensures.cell)
    (last-within _ _ _ c.self.invariant c.queue_of-queue.result c.queue_of-queue.ensures.within c.args.thread _ there front.0 front.1 back.0 c.args.place back.1 back.2)

pub invariant_of-self : goal.invariant_of-self
invariant_of-self g c =
    let there = rw (← c.self.view_is) at c.requires.there in
    let front = c.can_turn.ensures.first c.if-not-can_turn.false in
    let back = c.can_turn.ensures.last c.if-not-can_turn.false in
    turned _ _ _ c.self.invariant c.queue_of-queue.result c.queue_of-queue.ensures.within c.args.thread _ there front.0 front.1 back.0 c.args.place c.queue_of-queue.ensures.queue back.1 back.2 _
    (rw (c.link_out.ensures.linked, c.cell_of.ensures.cell) at c.link_in.ensures.linked)
