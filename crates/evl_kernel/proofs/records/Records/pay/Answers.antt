use Rattle.std.proofs.Common.{ap, ◌∙◌}
use Rattle.evl_sched.specs.Calls.{refill}
use Rattle.evl_kernel.specs.state.RecordsInside.{records_view}
use Rattle.evl_kernel.specs.state.ElementsViews.{owners_of}
use Rattle.evl_kernel.proofs.state.RankLaws.{ranks-charged, ranks-refilled}
use Rattle.evl_kernel.proofs.state.SchedLaws.{paid_anew, paid_within}
use Rattle.evl_kernel.proofs.waiting.WaitRecords.{sound_with}
use Rattle.evl_kernel.proofs.records.Records.pay.Goals as goal

pub returns-then-before-now-clause-paid : goal.returns-then-before-now-clause-paid
returns-then-before-now-clause-paid g c =
    rw (← c.self.view_is) (paid_anew (records_view c.self.inside) c.refill.new.self c.args.before c.args.delta c.args.now c.self.invariant
    (c.refill.ensures.state ∙ ap refill c.charge.ensures.state) c.if-before-now.true)

pub returns-else-before-now-clause-paid : goal.returns-else-before-now-clause-paid
returns-else-before-now-clause-paid g c =
    rw (← c.self.view_is) (paid_within (records_view c.self.inside) c.charge.new.self c.args.before c.args.delta c.args.now c.self.invariant c.charge.ensures.state c.if-before-now.false)

pub invariant_of-self : goal.invariant_of-self
invariant_of-self g c =
    let o = owners_of c.self.inside.elements in
    sound_with (records_view c.self.inside) c.self.invariant c.self.inside.elements c.refill.new.self c.self.inside.waits.items
    (ranks-refilled o c.charge.new.self c.refill.new.self (ranks-charged o c.self.inside.sched c.charge.new.self c.self.invariant.ranks c.args.delta c.charge.ensures.state) c.refill.ensures.state) c.self.invariant.waits

pub invariant_of-self-else-before-now : goal.invariant_of-self-else-before-now
invariant_of-self-else-before-now g c =
    sound_with (records_view c.self.inside) c.self.invariant c.self.inside.elements c.charge.new.self c.self.inside.waits.items
    (ranks-charged (owners_of c.self.inside.elements) c.self.inside.sched c.charge.new.self c.self.invariant.ranks c.args.delta c.charge.ensures.state) c.self.invariant.waits
