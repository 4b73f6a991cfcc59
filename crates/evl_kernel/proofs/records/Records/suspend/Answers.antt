use Rattle.evl_kernel.specs.state.RecordsInside.{records_view}
use Rattle.evl_kernel.specs.state.ElementsViews.{owners_of}
use Rattle.evl_kernel.proofs.state.CallbackLaws.{keeps-both}
use Rattle.evl_kernel.proofs.state.RankLaws.{ranks-blocked}
use Rattle.evl_kernel.proofs.waiting.WaitRecords.{keeps-sched}
use Rattle.evl_kernel.proofs.records.Records.suspend.Goals as goal

pub invariant_of-self : goal.invariant_of-self
invariant_of-self g c = record {
  allowed = c.self.invariant.allowed;
  timers_allowed = c.self.invariant.timers_allowed;
  clock_sound = c.self.invariant.clock_sound;
  ranks = ranks-blocked (owners_of c.self.inside.elements) c.self.inside.sched c.block.new.self c.self.invariant.ranks c.args.thread.0 c.block.ensures.state;
  waits = c.self.invariant.waits;
}

pub returns-clause-stands : goal.returns-clause-stands
returns-clause-stands g c =
    rw (← c.self.view_is) (keeps-both (records_view c.self.inside) _ c.await_date.new.self (keeps-sched (records_view c.self.inside) c.block.new.self) c.await_date.ensures.stands)
