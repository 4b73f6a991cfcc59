use Rattle.evl_kernel.proofs.waiting.StandingLaws.{old-unstalled}
use Rattle.evl_kernel.proofs.state.CallbackLaws.{keeps-old, allowed-old}
use Rattle.evl_kernel.specs.state.RecordsInside.{records_view}
use Rattle.evl_kernel.proofs.records.Records.unstall.Goals as goal

pub invariant_of-self : goal.invariant_of-self
invariant_of-self g c = record {
  allowed = allowed-old (records_view c.self.inside)
      c.unstall.new.self (rw c.unstall.ensures.state (old-unstalled c.self.inside.pipeline c.args.stage)) c.self.invariant.allowed;
  timers_allowed = c.self.invariant.timers_allowed;
  clock_sound = c.self.invariant.clock_sound;
  ranks = c.self.invariant.ranks;
  waits = c.self.invariant.waits;
}

pub returns-clause-stands : goal.returns-clause-stands
returns-clause-stands g c = rw (← c.self.view_is)
    (keeps-old (records_view c.self.inside)
    c.unstall.new.self (rw c.unstall.ensures.state (old-unstalled c.self.inside.pipeline c.args.stage)))
