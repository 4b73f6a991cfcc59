use Rattle.std.proofs.Common.{sym, ◌∙◌, subst}
use Rattle.evl_kernel.specs.state.States.{Elements}
use Rattle.evl_kernel.specs.calls.Elements.{wakes}
use Rattle.evl_kernel.specs.state.ElementsViews.{owners_of}
use Rattle.evl_kernel.specs.waiting.Endings.{drop_step}
use Rattle.evl_kernel.specs.state.RecordsInside.{records_view}
use Rattle.evl_kernel.proofs.calls.QueueLaws.{Dropped, drop_goes}
use Rattle.evl_kernel.proofs.state.RankLaws.{ranks-handed}
use Rattle.evl_kernel.proofs.waiting.WaitRecords.{dropped_apart, dropped_away, dropped_kept, ranks_as, sound_with}
use Rattle.evl_kernel.specs.state.ChangedThreads.{is_noted}
use Rattle.evl_kernel.proofs.state.ChangedLaws.{given-beside}
use Rattle.evl_kernel.proofs.records.Records.leave_queue.Goals as goal

pub invariant_of-self : goal.invariant_of-self
invariant_of-self g c =
    let e = c.self.inside.elements.elements in
    let dropped = subst (λ (z : Elements). Dropped e c.in-Some.on c.args.thread.0 (wakes e (drop_step c.args.thread.0 c.in-Some.on)) z) (sym c.leave.ensures.left) (drop_goes e c.self.invariant.waits.sound c.args.thread.0 c.in-Some.on) in
    sound_with (records_view c.self.inside) c.self.invariant c.leave.new.self c.hand_on.new.sched c.self.inside.waits.items
    (ranks-handed (owners_of c.self.inside.elements) c.self.inside.sched c.hand_on.new.sched c.self.invariant.ranks c.leave.new.self.base c.leave.new.self.elements.mutexes c.leave.ensures.base c.hand_on.ensures.kept c.hand_on.ensures.given)
    (dropped_kept c.self.inside.threads e c.self.inside.waits.items c.self.invariant.waits c.args.thread.0 c.in-Some.on (wakes e (drop_step c.args.thread.0 c.in-Some.on)) c.leave.new.self.elements dropped)

pub invariant_of-self-else-is_of_mutex : goal.invariant_of-self-else-is_of_mutex
invariant_of-self-else-is_of_mutex g c =
    let e = c.self.inside.elements.elements in
    let dropped = subst (λ (z : Elements). Dropped e c.in-Some.on c.args.thread.0 (wakes e (drop_step c.args.thread.0 c.in-Some.on)) z) (sym c.leave.ensures.left) (drop_goes e c.self.invariant.waits.sound c.args.thread.0 c.in-Some.on) in
    sound_with (records_view c.self.inside) c.self.invariant c.leave.new.self c.self.inside.sched c.self.inside.waits.items
    (ranks_as (records_view c.self.inside) c.self.invariant c.leave.new.self (c.leave.ensures.owners (sym c.is_of_mutex.ensures.mutex ∙ c.if-is_of_mutex.false)))
    (dropped_kept c.self.inside.threads e c.self.inside.waits.items c.self.invariant.waits c.args.thread.0 c.in-Some.on (wakes e (drop_step c.args.thread.0 c.in-Some.on)) c.leave.new.self.elements dropped)

pub returns-then-is_of_mutex-clause-away : goal.returns-then-is_of_mutex-clause-away
returns-then-is_of_mutex-clause-away g c on =
    let e = c.self.inside.elements.elements in
    let dropped = subst (λ (z : Elements). Dropped e c.in-Some.on c.args.thread.0 (wakes e (drop_step c.args.thread.0 c.in-Some.on)) z) (sym c.leave.ensures.left) (drop_goes e c.self.invariant.waits.sound c.args.thread.0 c.in-Some.on) in
    dropped_away c.self.inside.threads e c.self.inside.waits.items c.self.invariant.waits c.args.thread.0 c.in-Some.on (wakes e (drop_step c.args.thread.0 c.in-Some.on)) c.leave.new.self.elements dropped c.in-Some.ensures.on on

pub returns-else-is_of_mutex-clause-away : goal.returns-else-is_of_mutex-clause-away
returns-else-is_of_mutex-clause-away g c on =
    let e = c.self.inside.elements.elements in
    let dropped = subst (λ (z : Elements). Dropped e c.in-Some.on c.args.thread.0 (wakes e (drop_step c.args.thread.0 c.in-Some.on)) z) (sym c.leave.ensures.left) (drop_goes e c.self.invariant.waits.sound c.args.thread.0 c.in-Some.on) in
    dropped_away c.self.inside.threads e c.self.inside.waits.items c.self.invariant.waits c.args.thread.0 c.in-Some.on (wakes e (drop_step c.args.thread.0 c.in-Some.on)) c.leave.new.self.elements dropped c.in-Some.ensures.on on

pub returns-else-is_of_mutex-clause-apart : goal.returns-else-is_of_mutex-clause-apart
returns-else-is_of_mutex-clause-apart g c t is on =
    let e = c.self.inside.elements.elements in
    let dropped = subst (λ (z : Elements). Dropped e c.in-Some.on c.args.thread.0 (wakes e (drop_step c.args.thread.0 c.in-Some.on)) z) (sym c.leave.ensures.left) (drop_goes e c.self.invariant.waits.sound c.args.thread.0 c.in-Some.on) in
    dropped_apart c.self.inside.threads e c.self.inside.waits.items c.self.invariant.waits c.args.thread.0 c.in-Some.on (wakes e (drop_step c.args.thread.0 c.in-Some.on)) c.leave.new.self.elements dropped t (rw c.leave.ensures.woken is) on

pub hand_on-requires-clause-others : goal.hand_on-requires-clause-others
hand_on-requires-clause-others g c =
    given-beside (owners_of c.self.inside.elements) (owners_of c.leave.new.self) c.self.inside.sched (is_noted c.self.inside.changes) (is_noted c.leave.new.changes) c.self.invariant.ranks c.leave.ensures.noted
