use Rattle.std.proofs.Common.{None, sym, subst}
use Rattle.evl_clock.specs.Clocks.{IsSoundClock}
use Rattle.evl_kernel.specs.state.RecordsInside.{records_view}
use Rattle.evl_kernel.proofs.state.CallbackLaws.{keeps-both}
use Rattle.evl_kernel.proofs.state.TimerLaws.{OnlyOldTimers, keeps-clock, timers_allowed-clock, old-with_deadline, sound-with_deadline}
use Rattle.evl_kernel.specs.state.ElementsViews.{owners_of}
use Rattle.evl_kernel.proofs.state.RankLaws.{ranks-readied}
use Rattle.evl_kernel.proofs.waiting.WaitRecords.{keeps-sched, keeps-waits, waits_set}
use Rattle.evl_kernel.proofs.records.Records.wake.Goals as goal

pub invariant_of-self : goal.invariant_of-self
invariant_of-self g c = record {
  allowed = c.self.invariant.allowed;
  timers_allowed = timers_allowed-clock (records_view c.self.inside) c.clear_deadline.new.self
      (subst (OnlyOldTimers c.self.inside.clock) (sym c.clear_deadline.ensures.state) (old-with_deadline c.self.inside.clock c.args.thread.0 None)) c.self.invariant.timers_allowed;
  clock_sound = subst IsSoundClock (sym c.clear_deadline.ensures.state) (sound-with_deadline c.self.inside.clock c.args.thread.0 None c.self.invariant.clock_sound);
  ranks = ranks-readied (owners_of c.self.inside.elements) c.self.inside.sched c.ready.new.self c.self.invariant.ranks c.args.thread.0 c.ready.ensures.state;
  waits = waits_set c.self.inside.threads c.self.inside.elements.elements c.self.inside.waits.items c.self.invariant.waits c.args.thread.0 _ _ c.end.ensures.ended (rw (← c.self.view_is) at c.requires.away);
}

pub returns-clause-stands : goal.returns-clause-stands
returns-clause-stands g c =
    rw (← c.self.view_is) (keeps-both (records_view c.self.inside) _ _ (keeps-clock (records_view c.self.inside) c.clear_deadline.new.self
    (subst (OnlyOldTimers c.self.inside.clock) (sym c.clear_deadline.ensures.state) (old-with_deadline c.self.inside.clock c.args.thread.0 None)))
    (keeps-both (record (records_view c.self.inside) { clock = c.clear_deadline.new.self }) _ _
    (keeps-sched (record (records_view c.self.inside) { clock = c.clear_deadline.new.self }) c.ready.new.self)
    (keeps-waits (record (records_view c.self.inside) { clock = c.clear_deadline.new.self; sched = c.ready.new.self }) c.end.new.waits.items)))
