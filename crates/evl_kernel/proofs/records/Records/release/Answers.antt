use Rattle.std.proofs.Common.{Some, None, Ok, sym, ap, ◌∙◌}
use Rattle.evl_base.specs.declared.reply.Reply.TheVariants.{Done, Handed}
use Rattle.evl_sched.specs.Threads.{Sched}
use Rattle.evl_kernel.specs.calls.Effects.{Effect}
use Rattle.evl_kernel.specs.calls.Elements.{on_mutex}
use Rattle.evl_kernel.specs.state.ElementsViews.{owners_of}
use Rattle.evl_kernel.specs.calls.Mutexes as mutex
use Rattle.evl_kernel.specs.state.Records.{state_of}
use Rattle.evl_kernel.specs.state.RecordsInside.{records_view}
use Rattle.evl_kernel.specs.state.States.{with_sched}
use Rattle.evl_kernel.specs.waiting.Waits.{woken}
use Rattle.evl_kernel.proofs.state.CallbackLaws.{keeps-both}
use Rattle.evl_kernel.proofs.calls.QueueLaws.{asks_release}
use Rattle.evl_kernel.proofs.state.RankLaws.{ranks-handed}
use Rattle.evl_kernel.proofs.waiting.WaitRecords.{alone_served, asked_away, asked_done, asked_ranked, keeps-changed}
use Rattle.evl_kernel.specs.state.ChangedThreads.{is_noted}
use Rattle.evl_kernel.proofs.state.ChangedLaws.{given-beside}
use Rattle.evl_kernel.proofs.records.Records.release.Goals as goal
use Rattle.evl_kernel.proofs.records.Records.release.Goals.{in-Some, in_default}

pub invariant_of-self-in-Some : goal.invariant_of-self-in-Some
invariant_of-self-in-Some g c =
    asked_ranked (records_view c.self.inside) c.self.invariant (on_mutex c.args.mutex.0 (mutex.release c.args.thread.0)) (asks_release c.args.mutex.0 c.args.thread.0) (Handed c.in-Ok.next c.in-Ok.more) c.release.new.self c.in-Ok.ensures.step c.hand_on.new.sched
    (ranks-handed (owners_of c.self.inside.elements) c.self.inside.sched c.hand_on.new.sched c.self.invariant.ranks c.release.new.self.base c.release.new.self.elements.mutexes c.release.ensures.base c.hand_on.ensures.kept c.hand_on.ensures.given)

pub wake-requires-clause-away : goal.wake-requires-clause-away
wake-requires-clause-away g c on =
    asked_away (records_view c.self.inside) c.self.invariant (on_mutex c.args.mutex.0 (mutex.release c.args.thread.0)) (asks_release c.args.mutex.0 c.args.thread.0) (Handed c.in-Ok.next c.in-Ok.more) c.release.new.self c.in-Ok.ensures.step c.in-Some.waiter.0
    (alone_served c.in-Some.waiter.0 Done _ (rw c.in-Some.is at c.in-Ok.ensures.served)) on

pub invariant_of-self-in_default : goal.invariant_of-self-in_default
invariant_of-self-in_default g c =
    asked_ranked (records_view c.self.inside) c.self.invariant (on_mutex c.args.mutex.0 (mutex.release c.args.thread.0)) (asks_release c.args.mutex.0 c.args.thread.0) (Handed c.in-Ok.next c.in-Ok.more) c.release.new.self c.in-Ok.ensures.step c.hand_on.new.sched
    (ranks-handed (owners_of c.self.inside.elements) c.self.inside.sched c.hand_on.new.sched c.self.invariant.ranks c.release.new.self.base c.release.new.self.elements.mutexes c.release.ensures.base c.hand_on.ensures.kept c.hand_on.ensures.given)

pub returns-after-next-clause-stands : goal.returns-after-next-clause-stands
returns-after-next-clause-stands g c = elim c.match-next.branch [
  | in-Some w ↦ rw w.self-is (keeps-both c.args.self.now _ w.wake.new.self (rw (← c.self.view_is) (keeps-changed (records_view c.self.inside) c.release.new.self c.hand_on.new.sched c.self.inside.waits.items)) w.wake.ensures.stands)
  | in_default w ↦ rw (w.self-is, ← c.self.view_is) (keeps-changed (records_view c.self.inside) c.release.new.self c.hand_on.new.sched c.self.inside.waits.items)
]

pub hand_on-requires-clause-others : goal.hand_on-requires-clause-others
hand_on-requires-clause-others g c =
    given-beside (owners_of c.self.inside.elements) (owners_of c.release.new.self) c.self.inside.sched (is_noted c.self.inside.changes) (is_noted c.release.new.changes) c.self.invariant.ranks c.release.ensures.noted

pub returns-after-next-clause-served : goal.returns-after-next-clause-served
returns-after-next-clause-served g c =
    let r = records_view c.self.inside in let step = on_mutex c.args.mutex.0 (mutex.release c.args.thread.0) in let asks = asks_release c.args.mutex.0 c.args.thread.0 in
    elim c.match-next.branch [
      | in-Some w ↦ (
          let reply = Handed (Some w.in-Some.waiter) c.in-Ok.more in
          let G : Sched → Effect = λ q. Ok (reply, woken (with_sched (state_of (record r { elements = c.release.new.self })) q) w.in-Some.waiter.0 Done) in
          rw (w.self-is, w.next-is, w.wake.ensures.woken, ← c.self.view_is)
          (asked_done r c.self.invariant step asks reply c.release.new.self (rw w.in-Some.is at c.in-Ok.ensures.step) _ (rw w.in-Some.is at c.in-Ok.ensures.served) ∙ ap G (sym c.hand_on.ensures.kept)))
      | in_default w ↦ (
          let reply = Handed None c.in-Ok.more in
          let G : Sched → Effect = λ q. Ok (reply, with_sched (state_of (record r { elements = c.release.new.self })) q) in
          rw (w.self-is, w.next-is, w.in_default.is, ← c.self.view_is)
          (asked_done r c.self.invariant step asks reply c.release.new.self (rw w.in_default.is at c.in-Ok.ensures.step) _ (rw w.in_default.is at c.in-Ok.ensures.served) ∙ ap G (sym c.hand_on.ensures.kept)))
    ]
