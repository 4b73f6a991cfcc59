use Rattle.std.proofs.Common.{sym, subst}
use Rattle.evl_clock.specs.Clocks.{IsSoundClock}
use Rattle.evl_kernel.specs.state.RecordsInside.{records_view}
use Rattle.evl_kernel.proofs.state.TimerLaws.{OnlyOldTimers, keeps-clock, timers_allowed-clock, old-stop, sound-stop, stopped_state}
use Rattle.evl_kernel.proofs.records.Records.stop_timer.Goals as goal

pub invariant_of-self-2 : goal.invariant_of-self-2
invariant_of-self-2 g c = record {
  allowed = c.self.invariant.allowed;
  timers_allowed = timers_allowed-clock (records_view c.self.inside) c.stop.new.self
      (subst (OnlyOldTimers c.self.inside.clock) (sym c.in_ok-stop.ensures.state) (old-stop c.self.inside.clock c.args.timer.0)) c.self.invariant.timers_allowed;
  clock_sound = subst IsSoundClock (sym c.in_ok-stop.ensures.state) (sound-stop c.self.inside.clock c.args.timer.0 c.self.invariant.clock_sound);
  ranks = c.self.invariant.ranks;
  waits = c.self.invariant.waits;
}

pub returns-clause-served : goal.returns-clause-served
returns-clause-served g c =
    rw (← c.self.view_is) (stopped_state (records_view c.self.inside) c.args.timer.0 c.stop.new.self c.in_ok-stop.ensures.ok c.in_ok-stop.ensures.state)

pub returns-clause-stands : goal.returns-clause-stands
returns-clause-stands g c =
    rw (← c.self.view_is) (keeps-clock (records_view c.self.inside) c.stop.new.self
    (subst (OnlyOldTimers c.self.inside.clock) (sym c.in_ok-stop.ensures.state) (old-stop c.self.inside.clock c.args.timer.0)))
