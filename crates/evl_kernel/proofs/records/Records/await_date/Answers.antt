use Rattle.std.proofs.Common.{None, Some, sym, subst}
use Rattle.evl_clock.specs.Clocks.{IsSoundClock}
use Rattle.evl_kernel.specs.state.RecordsInside.{records_view}
use Rattle.evl_kernel.proofs.state.CallbackLaws.{keeps-both}
use Rattle.evl_kernel.proofs.state.TimerLaws.{OnlyOldTimers, keeps-clock, timers_allowed-clock, old-with_deadline, sound-with_deadline}
use Rattle.evl_kernel.proofs.records.Records.await_date.Goals as goal

pub invariant_of-self : goal.invariant_of-self
invariant_of-self g c = record {
  allowed = c.self.invariant.allowed;
  timers_allowed = timers_allowed-clock (records_view c.self.inside) c.clear_deadline.new.self
      (subst (OnlyOldTimers c.self.inside.clock) (sym c.clear_deadline.ensures.state) (old-with_deadline c.self.inside.clock c.args.thread.0 None)) c.self.invariant.timers_allowed;
  clock_sound = subst IsSoundClock (sym c.clear_deadline.ensures.state) (sound-with_deadline c.self.inside.clock c.args.thread.0 None c.self.invariant.clock_sound);
  ranks = c.self.invariant.ranks;
  waits = c.self.invariant.waits;
}

pub invariant_of-self-in-Some : goal.invariant_of-self-in-Some
invariant_of-self-in-Some g c = record {
  allowed = c.self-in-Some.invariant.allowed;
  timers_allowed = timers_allowed-clock (records_view c.self-in-Some.inside) c.set_deadline.new.self
      (subst (OnlyOldTimers c.self-in-Some.inside.clock) (sym c.set_deadline.ensures.state) (old-with_deadline c.self-in-Some.inside.clock c.args.thread.0 (Some c.in-Some.date))) c.self-in-Some.invariant.timers_allowed;
  clock_sound = subst IsSoundClock (sym c.set_deadline.ensures.state) (sound-with_deadline c.self-in-Some.inside.clock c.args.thread.0 (Some c.in-Some.date) c.self-in-Some.invariant.clock_sound);
  ranks = c.self-in-Some.invariant.ranks;
  waits = c.self-in-Some.invariant.waits;
}

pub returns-in-None-clause-stands : goal.returns-in-None-clause-stands
returns-in-None-clause-stands g c =
    rw (← c.self.view_is) (keeps-clock (records_view c.self.inside) c.clear_deadline.new.self
    (subst (OnlyOldTimers c.self.inside.clock) (sym c.clear_deadline.ensures.state) (old-with_deadline c.self.inside.clock c.args.thread.0 None)))

pub returns-in-Some-clause-stands : goal.returns-in-Some-clause-stands
returns-in-Some-clause-stands g c =
    rw (← c.self-in-Some.view_is) (keeps-both (records_view c.self-in-Some.inside) _ c.alarm.new.self
    (keeps-clock (records_view c.self-in-Some.inside) c.set_deadline.new.self
    (subst (OnlyOldTimers c.self-in-Some.inside.clock) (sym c.set_deadline.ensures.state) (old-with_deadline c.self-in-Some.inside.clock c.args.thread.0 (Some c.in-Some.date)))) c.alarm.ensures.stands)
