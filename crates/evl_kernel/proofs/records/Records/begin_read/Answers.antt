use Rattle.evl_kernel.specs.declared.waits.Awaited.TheVariants as awaited
use Rattle.evl_kernel.specs.declared.waits.Wanted.TheVariants as wanted
use Rattle.evl_kernel.specs.state.RecordsInside.{records_view}
use Rattle.evl_kernel.proofs.waiting.WaitRecords.{begin_freed, idle_away, sound_served, sound_waiting}
use Rattle.evl_kernel.proofs.records.Records.begin_read.Goals as goal

pub begin_read-requires-clause-away : goal.begin_read-requires-clause-away
begin_read-requires-clause-away g c =
    idle_away c.self.inside.threads c.self.inside.elements.elements c.self.inside.waits.items c.self.invariant.waits c.args.thread.0 (rw (← c.self.view_is) at c.requires.idle) (awaited.Reading c.args.xbuf c.args.way)

pub invariant_of-self : goal.invariant_of-self
invariant_of-self g c =
    sound_served (records_view c.self.inside) c.self.invariant c.args.thread.0 0 (wanted.Read c.args.xbuf c.args.way c.args.len) c.args.until (rw (← c.self.view_is) at c.requires.idle) (rw (← c.self.view_is) at c.requires.there) (rw (← c.self.view_is) at c.requires.may) c.begin_read.new.self c.begin_read.ensures.step
    _ c.in-Some.ensures.served _ c.begin.new.waits.items c.begin.ensures.begun c.begin_read.ensures.owners

pub wake_served-requires : goal.wake_served-requires
wake_served-requires g c = record {
  away = λ thread is on.
      begin_freed (records_view c.self.inside) c.self.invariant c.args.thread.0 0 (wanted.Read c.args.xbuf c.args.way c.args.len) c.args.until (rw (← c.self.view_is) at c.requires.idle) (rw (← c.self.view_is) at c.requires.there) (rw (← c.self.view_is) at c.requires.may) c.begin_read.new.self c.begin_read.ensures.step
      _ c.in-Some.ensures.served thread (rw c.in-Some.ensures.woken is) on;
}

pub invariant_of-self-in-None : goal.invariant_of-self-in-None
invariant_of-self-in-None g c =
    sound_waiting (records_view c.self.inside) c.self.invariant c.args.thread.0 0 (wanted.Read c.args.xbuf c.args.way c.args.len) c.args.until (rw (← c.self.view_is) at c.requires.idle) (rw (← c.self.view_is) at c.requires.there) (rw (← c.self.view_is) at c.requires.may) c.begin_read.new.self c.begin_read.ensures.step
    c.in-None.ensures.served c.begin-in-None.new.waits.items c.begin-in-None.ensures.begun c.begin_read.ensures.owners
