use Rattle.std.proofs.Common.{ℕ, Option, ◌≡◌, ◌<◌, ◌+◌, ◌==◌, ◌++◌, ◌∷◌, [], List, suc, length, if◌then◌else◌, ap, ◌∙◌, arith}
use Rattle.evl_sched.specs.Threads.{without}
use Rattle.evl_sched.proofs.StampedLaws.{came-ranks, order-of-came, stamped-came}
use Rattle.evl_sched.proofs.order.Order.come.Goals as goal

pub invariant_of-self : goal.invariant_of-self
invariant_of-self g c =
    let there = rw (← c.self.view_is) at c.requires in
    let f = c.free_stamp-stamp in
    let room : c.args.thread < length f.new.queues = omega (arith, there, f.ensures.many) in
    let one : f.result + 1 ≡ suc f.result = omega arith in
    rw (c.come_to.ensures.stood, one) (stamped-came _ _ _ f.ensures.stamped c.args.thread c.args.rank room)

pub returns-clause-ready : goal.returns-clause-ready
returns-clause-ready g c =
    let there = rw (← c.self.view_is) at c.requires in
    let f = c.free_stamp-stamp in
    let room : c.args.thread < length f.new.queues = omega (arith, there, f.ensures.many) in
    let one : f.result + 1 ≡ suc f.result = omega arith in
    rw (← c.self.view_is, one) (order-of-came _ _ _ f.ensures.stamped c.args.thread c.args.rank room ∙ ap (λ (ts : List ℕ). without ts c.args.thread ++ c.args.thread ∷ []) f.ensures.order)

pub returns-clause-ranks : goal.returns-clause-ranks
returns-clause-ranks g c =
    let there = rw (← c.self.view_is) at c.requires in
    let f = c.free_stamp-stamp in
    let room : c.args.thread < length f.new.queues = omega (arith, there, f.ensures.many) in
    rw (← c.self.view_is, c.come_to.ensures.stood)
    (λ t. came-ranks _ c.args.thread f.result c.args.rank room t ∙ ap (λ (r : Option ℕ). if t == c.args.thread then c.args.rank else r) (f.ensures.ranks t))
