use Rattle.std.proofs.Common.{◌<◌, None, length, slice_set, ap, ◌∙◌, arith}
use Rattle.evl_sched.proofs.FillLaws.{filled_more, filled_all}
use Rattle.evl_sched.proofs.contenders.Contenders.clear.Goals as goal

pub loop-thread-preserved : goal.loop-thread-preserved
loop-thread-preserved g c =
    let inside : c.loop-thread.thread < length c.args.self.now = omega (arith, c.loop-thread-test.true, c.count-thread-end.ensures) in
    c.take.ensures.taken ∙ (ap (λ xs. slice_set xs c.loop-thread.thread None) c.loop-thread.invariant ∙ filled_more c.args.self.now c.loop-thread.thread None inside)

pub returns : goal.returns
returns g c = record { empty = c.loop-thread.invariant ∙ filled_all c.args.self.now c.loop-thread.thread None (omega (arith, c.loop-thread-test.false, c.loop-thread.auto.thread-end, c.count-thread-end.ensures)) }
