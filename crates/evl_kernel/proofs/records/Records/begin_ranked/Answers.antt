use Rattle.std.proofs.Common.{sym}
use Rattle.evl_kernel.specs.state.RecordsInside.{records_view}
use Rattle.evl_kernel.proofs.waiting.WaitRecords.{sound_served, sound_waiting}
use Rattle.evl_kernel.proofs.records.Records.begin_ranked.Goals as goal

pub invariant_of-self : goal.invariant_of-self
invariant_of-self g c =
    sound_served (records_view c.self.inside) c.self.invariant c.args.thread.0 c.args.rank c.args.wanted.now c.args.until (rw (← c.self.view_is) at c.requires.idle) (rw (← c.self.view_is) at c.requires.there) (rw (← c.self.view_is) at c.requires.may)
    c.begin.new.self c.begin.ensures.step c.in-Some.outcome (sym c.in-Some.ensures.served) _ c.begin-in-Some.new.waits.items c.begin-in-Some.ensures.begun c.begin.ensures.owners

pub invariant_of-self-2 : goal.invariant_of-self-2
invariant_of-self-2 g c =
    sound_waiting (records_view c.self.inside) c.self.invariant c.args.thread.0 c.args.rank c.args.wanted.now c.args.until (rw (← c.self.view_is) at c.requires.idle) (rw (← c.self.view_is) at c.requires.there) (rw (← c.self.view_is) at c.requires.may)
    c.begin.new.self c.begin.ensures.step (sym c.in_default.ensures.served) c.begin-2.new.waits.items (rw c.awaited-on.ensures.on at c.begin-2.ensures.begun) c.begin.ensures.owners
