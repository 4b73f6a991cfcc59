use Rattle.std.proofs.Common.{◌≡◌, Some, sym, ap, ◌∙◌}
use Rattle.evl_clock.specs.Dues.{deadline, next_due, timer}
use Rattle.evl_clock.proofs.StepLaws.{bounded, fewer, fewer_cleared}
use Rattle.evl_clock.proofs.clock.ClockOf.next_due.Goals as goal

pub fire-requires : goal.fire-requires
fire-requires g c = record { next = sym c.in_ok-item.ensures.next ∙ ap Some c.in-Timer.is }

pub expire-requires : goal.expire-requires
expire-requires g c = record { next = sym c.in_ok-item.ensures.next ∙ ap Some c.in-Deadline.is }

pub returns-in_ok-fire-in-Timer-clause-fewer : goal.returns-in_ok-fire-in-Timer-clause-fewer
returns-in_ok-fire-in-Timer-clause-fewer g c =
    let chosen : next_due c.args.self.now ≡ Some (timer c.in-Timer.id.0) = sym c.in_ok-item.ensures.next ∙ ap Some c.in-Timer.is in
    fewer _ _ _ _ _ _ _ _ _ chosen c.in_ok-fire-in-Timer.ensures.some

pub returns-in_ok-fire-in-Timer-clause-bounded : goal.returns-in_ok-fire-in-Timer-clause-bounded
returns-in_ok-fire-in-Timer-clause-bounded g c = bounded _ _ _ _ _ _ _ _ _ c.in_ok-fire-in-Timer.ensures.some

pub returns-in-Deadline-clause-fewer : goal.returns-in-Deadline-clause-fewer
returns-in-Deadline-clause-fewer g c =
    let chosen : next_due c.args.self.now ≡ Some (deadline c.in-Deadline.thread.0) = sym c.in_ok-item.ensures.next ∙ ap Some c.in-Deadline.is in
    fewer_cleared c.args.self.now c.expire.new.self c.in-Deadline.thread.0 chosen c.expire.ensures.state
