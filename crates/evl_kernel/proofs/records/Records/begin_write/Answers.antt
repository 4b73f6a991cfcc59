use Rattle.evl_kernel.specs.declared.waits.Awaited.TheVariants as awaited
use Rattle.evl_kernel.specs.declared.waits.Wanted.TheVariants as wanted
use Rattle.evl_kernel.specs.state.RecordsInside.{records_view}
use Rattle.evl_kernel.proofs.waiting.WaitRecords.{begin_freed, idle_away, sound_served, sound_waiting}
use Rattle.evl_kernel.proofs.records.Records.begin_write.Goals as goal

pub begin_write-requires-clause-away : goal.begin_write-requires-clause-away
begin_write-requires-clause-away g c =
    idle_away c.self.inside.threads c.self.inside.elements.elements c.self.inside.waits.items c.self.invariant.waits c.args.thread.0 (rw (← c.self.view_is) at c.requires.idle) (awaited.Writing c.args.xbuf c.args.way)

pub invariant_of-self : goal.invariant_of-self
invariant_of-self g c =
    sound_served (records_view c.self.inside) c.self.invariant c.args.thread.0 0 (wanted.Write c.args.xbuf c.args.way (record { items = c.args.bytes.now })) c.args.until (rw (← c.self.view_is) at c.requires.idle) (rw (← c.self.view_is) at c.requires.there) (rw (← c.self.view_is) at c.requires.may) c.begin_write.new.self c.begin_write.ensures.step
    _ (rw c.if-begin_write.true at c.begin_write.ensures.served) _ c.begin.new.waits.items c.begin.ensures.begun c.begin_write.ensures.owners

pub wake_served-requires : goal.wake_served-requires
wake_served-requires g c = record {
  away = λ thread is on.
      begin_freed (records_view c.self.inside) c.self.invariant c.args.thread.0 0 (wanted.Write c.args.xbuf c.args.way (record { items = c.args.bytes.now })) c.args.until (rw (← c.self.view_is) at c.requires.idle) (rw (← c.self.view_is) at c.requires.there) (rw (← c.self.view_is) at c.requires.may) c.begin_write.new.self c.begin_write.ensures.step
      _ (rw c.if-begin_write.true at c.begin_write.ensures.served) thread (rw (rw c.if-begin_write.true at c.begin_write.ensures.woken) is) on;
}

pub invariant_of-self-2 : goal.invariant_of-self-2
invariant_of-self-2 g c =
    sound_waiting (records_view c.self.inside) c.self.invariant c.args.thread.0 0 (wanted.Write c.args.xbuf c.args.way (record { items = c.args.bytes.now })) c.args.until (rw (← c.self.view_is) at c.requires.idle) (rw (← c.self.view_is) at c.requires.there) (rw (← c.self.view_is) at c.requires.may) c.begin_write.new.self c.begin_write.ensures.step
    (rw c.if-begin_write.false at c.begin_write.ensures.served) c.begin-2.new.waits.items c.begin-2.ensures.begun c.begin_write.ensures.owners
