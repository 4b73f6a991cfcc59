use Rattle.std.proofs.Common.{None, refl, sym, subst}
use Rattle.evl_clock.specs.Clocks.{IsSoundClock}
use Rattle.evl_kernel.specs.state.RecordsInside.{records_view}
use Rattle.evl_kernel.proofs.state.CallbackLaws.{keeps-both}
use Rattle.evl_kernel.proofs.state.TimerLaws.{OnlyOldTimers, keeps-clock, timers_allowed-clock, old-fired, old-with_deadline, sound-with_timer, sound-with_deadline}
use Rattle.evl_kernel.proofs.settling.ItemLaws.{nothing_due, deadline_next, deadline_nearer, timer_next, timer_called, timer_nearer}
use Rattle.evl_kernel.proofs.records.Records.play_item.Goals as goal

pub returns-in_err-thread-clause-ended : goal.returns-in_err-thread-clause-ended
returns-in_err-thread-clause-ended g c =
    rw (c.from_residual.ensures, ← c.self.view_is, c.in_err-thread.ensures.due.1) (nothing_due (records_view c.self.inside) c.in_err-thread.ensures.due.0, refl)

pub invariant_of-self-in-Deadline : goal.invariant_of-self-in-Deadline
invariant_of-self-in-Deadline g c =
    let fell = rw c.in-Deadline.is at c.in_ok-thread.ensures.due in
    record {
      allowed = c.self.invariant.allowed;
      timers_allowed = timers_allowed-clock (records_view c.self.inside) c.next_due.new.self
          (subst (OnlyOldTimers c.self.inside.clock) (sym fell.1) (old-with_deadline c.self.inside.clock c.in-Deadline.thread.0 None)) c.self.invariant.timers_allowed;
      clock_sound = subst IsSoundClock (sym fell.1) (sound-with_deadline c.self.inside.clock c.in-Deadline.thread.0 None c.self.invariant.clock_sound);
      ranks = c.self.invariant.ranks;
      waits = c.self.invariant.waits;
    }

pub invariant_of-self-in-Timer : goal.invariant_of-self-in-Timer
invariant_of-self-in-Timer g c =
    let fell = rw c.in-Timer.is at c.in_ok-thread.ensures.due in
    record {
      allowed = c.self.invariant.allowed;
      timers_allowed = timers_allowed-clock (records_view c.self.inside) c.next_due.new.self
          (subst (OnlyOldTimers c.self.inside.clock) (sym fell.1.after) (old-fired c.self.inside.clock c.in-Timer.id.0 fell.1.at fell.1.stands)) c.self.invariant.timers_allowed;
      clock_sound = subst IsSoundClock (sym fell.1.after) (sound-with_timer c.self.inside.clock c.in-Timer.id.0 _ c.self.invariant.clock_sound);
      ranks = c.self.invariant.ranks;
      waits = c.self.invariant.waits;
    }

pub returns-in-Deadline-clause-played : goal.returns-in-Deadline-clause-played
returns-in-Deadline-clause-played g c =
    let fell = rw c.in-Deadline.is at c.in_ok-thread.ensures.due in
    rw (← c.self.view_is) (deadline_next (records_view c.self.inside) c.expire.new.self c.in-Deadline.thread c.next_due.new.self fell.1 c.expire.ensures.expired fell.0)

pub returns-in-Deadline-clause-nearer : goal.returns-in-Deadline-clause-nearer
returns-in-Deadline-clause-nearer g c =
    let fell = rw c.in-Deadline.is at c.in_ok-thread.ensures.due in
    rw (← c.self.view_is) (deadline_nearer (records_view c.self.inside) c.expire.new.self c.in-Deadline.thread c.next_due.new.self fell.1 c.expire.ensures.expired c.in_ok-thread.ensures.fewer)

pub returns-in-Deadline-clause-stands : goal.returns-in-Deadline-clause-stands
returns-in-Deadline-clause-stands g c =
    let fell = rw c.in-Deadline.is at c.in_ok-thread.ensures.due in
    rw (← c.self.view_is) (keeps-both (records_view c.self.inside) _ c.expire.new.self (keeps-clock (records_view c.self.inside) c.next_due.new.self
    (subst (OnlyOldTimers c.self.inside.clock) (sym fell.1) (old-with_deadline c.self.inside.clock c.in-Deadline.thread.0 None))) c.expire.ensures.stands)

pub returns-in-Timer-clause-played : goal.returns-in-Timer-clause-played
returns-in-Timer-clause-played g c =
    let fell = rw c.in-Timer.is at c.in_ok-thread.ensures.due in
    rw (← c.self.view_is) (timer_next g.C.Handler.declared g.C.Handler.plan g.C.Handler.gives (records_view c.self.inside) c.respond.new.self c.in-Timer.id c.in-Timer.fire c.in-Timer.missed c.in-Timer.answer c.next_due.new.self
    (rw (← c.self.view_is) at c.requires.by_plan) fell.0 fell.1 c.respond.ensures.answered)

pub returns-in-Timer-clause-nearer : goal.returns-in-Timer-clause-nearer
returns-in-Timer-clause-nearer g c =
    rw (← c.self.view_is) (timer_nearer g.C.Handler.declared g.C.Handler.plan (records_view c.self.inside) c.respond.new.self c.in-Timer.fire c.in-Timer.answer c.next_due.new.self
    (rw (← c.self.view_is) at c.requires.by_plan) c.self.invariant.timers_allowed c.in_ok-thread.ensures.fewer (rw c.in-Timer.is at c.in_ok-thread.ensures.bounded).1 c.respond.ensures.answered)

pub returns-in-Timer-clause-called : goal.returns-in-Timer-clause-called
returns-in-Timer-clause-called g c =
    let fell = rw c.in-Timer.is at c.in_ok-thread.ensures.due in
    rw (← c.self.view_is) (timer_called g.C.Handler.declared g.C.Handler.plan g.C.Handler.gives (records_view c.self.inside) c.in-Timer.id c.in-Timer.fire c.in-Timer.missed c.in-Timer.answer c.next_due.new.self
    (rw (← c.self.view_is) at c.requires.by_plan) fell.1)

pub returns-in-Timer-clause-stands : goal.returns-in-Timer-clause-stands
returns-in-Timer-clause-stands g c =
    let fell = rw c.in-Timer.is at c.in_ok-thread.ensures.due in
    rw (← c.self.view_is) (keeps-both (records_view c.self.inside) _ c.respond.new.self
    (keeps-clock (records_view c.self.inside) c.next_due.new.self (subst (OnlyOldTimers c.self.inside.clock) (sym fell.1.after) (old-fired c.self.inside.clock c.in-Timer.id.0 fell.1.at fell.1.stands)))
    c.respond.ensures.stands)
