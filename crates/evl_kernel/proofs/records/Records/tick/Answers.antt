use Rattle.std.proofs.Common.{sym, subst}
use Rattle.evl_clock.specs.Clocks.{IsSoundClock}
use Rattle.evl_kernel.specs.state.RecordsInside.{records_view}
use Rattle.evl_kernel.proofs.state.CallbackLaws.{keeps-both}
use Rattle.evl_kernel.proofs.state.TimerLaws.{OnlyOldTimers, keeps-clock, timers_allowed-clock, old-advanced, sound-advanced, ticked_state}
use Rattle.evl_kernel.proofs.records.Records.tick.Goals as goal

pub invariant_of-self-2 : goal.invariant_of-self-2
invariant_of-self-2 g c = record {
  allowed = c.self.invariant.allowed;
  timers_allowed = timers_allowed-clock (records_view c.self.inside) c.advance.new.self
      (subst (OnlyOldTimers c.self.inside.clock) (sym c.in_ok-due.ensures.state) (old-advanced c.self.inside.clock c.args.delta)) c.self.invariant.timers_allowed;
  clock_sound = subst IsSoundClock (sym c.in_ok-due.ensures.state) (sound-advanced c.self.inside.clock c.args.delta c.self.invariant.clock_sound);
  ranks = c.self.invariant.ranks;
  waits = c.self.invariant.waits;
}

pub returns-clause-served : goal.returns-clause-served
returns-clause-served g c =
    rw (← c.self.view_is) (ticked_state (records_view c.self.inside) c.args.delta c.in_ok-due.due _ c.in_ok-due.ensures.ok.0 c.in_ok-due.ensures.state c.in_ok-due.ensures.ok.1 _ (rw (c.now-before.ensures.now, c.now-now.ensures.now) at c.pay.ensures.paid) _ c.alarm.ensures.posted)

pub returns-clause-stands : goal.returns-clause-stands
returns-clause-stands g c =
    rw (← c.self.view_is) (keeps-both (records_view c.self.inside) c.pay.new.self c.alarm.new.self (keeps-both (records_view c.self.inside) _ c.pay.new.self (keeps-clock (records_view c.self.inside) _
    (subst (OnlyOldTimers c.self.inside.clock) (sym c.in_ok-due.ensures.state) (old-advanced c.self.inside.clock c.args.delta))) c.pay.ensures.stands) c.alarm.ensures.stands)
