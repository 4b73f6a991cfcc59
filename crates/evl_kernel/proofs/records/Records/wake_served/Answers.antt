use Rattle.std.proofs.Common.{List, map, sym, ap, ◌∙◌}
use Rattle.evl_kernel.specs.calls.CrossBuffers.{service_told}
use Rattle.evl_kernel.specs.state.Records.{state_of}
use Rattle.evl_kernel.specs.waiting.Waits.{all_woken}
use Rattle.evl_xbuf.specs.Streams.{Service, Wrote, Got}
use Rattle.evl_kernel.specs.state.States.{State}
use Rattle.evl_kernel.specs.calls.Elements.{elements}
use Rattle.evl_kernel.specs.waiting.Standing.{is_served, stands_for}
use Rattle.evl_kernel.proofs.state.CallbackLaws.{keeps-both}
use Rattle.evl_kernel.proofs.waiting.ServedWaits.{beyond_all, itself_served, later_served, later_woken}
use Rattle.evl_kernel.proofs.records.Records.wake_served.Goals as goal
use Rattle.evl_kernel.proofs.records.Records.wake_served.Goals.{in-Some-Wrote, in-Some-Got, in-None}

pub wake-requires-clause-away : goal.wake-requires-clause-away
wake-requires-clause-away g c on =
    c.loop-place.invariant.away c.in-Some-Wrote.thread.0 (itself_served c.args.served.now c.loop-place.place (Wrote c.in-Some-Wrote.thread.0) (sym (rw c.in-Some-Wrote.field-0-is at c.in-Some-Wrote.ensures.service))) on

pub wake-requires-in-Some-Got-clause-away : goal.wake-requires-in-Some-Got-clause-away
wake-requires-in-Some-Got-clause-away g c on =
    c.loop-place.invariant.away c.in-Some-Got.thread.0 (itself_served c.args.served.now c.loop-place.place (Got c.in-Some-Got.thread.0 c.in-Some-Got.bytes.now) (sym (rw c.in-Some-Got.field-0-is at c.in-Some-Got.ensures.service))) on

pub loop-place-preserved : goal.loop-place-preserved
loop-place-preserved g c = elim c.match-get.branch [
  | in-Some-Wrote w ↦ record {
    woken = rw w.self-is (later_woken c.args.served.now c.loop-place.place (Wrote w.in-Some-Wrote.thread.0) (sym (rw w.in-Some-Wrote.field-0-is at w.in-Some-Wrote.ensures.service)) _ _ w.wake.ensures.woken ∙ c.loop-place.invariant.woken);
    away = λ thread is on. rw w.self-is (ap (λ (s : State). stands_for (elements s) on thread) w.wake.ensures.woken
        ∙ c.loop-place.invariant.away thread (later_served c.args.served.now c.loop-place.place (Wrote w.in-Some-Wrote.thread.0) (sym (rw w.in-Some-Wrote.field-0-is at w.in-Some-Wrote.ensures.service)) thread is) on);
    stands = rw w.self-is (keeps-both c.args.self.now c.loop-place.self w.wake.new.self c.loop-place.invariant.stands w.wake.ensures.stands);
  }
  | in-Some-Got w ↦ record {
    woken = rw w.self-is (later_woken c.args.served.now c.loop-place.place (Got w.in-Some-Got.thread.0 w.in-Some-Got.bytes.now) (sym (rw w.in-Some-Got.field-0-is at w.in-Some-Got.ensures.service)) _ _ w.wake-in-Some-Got.ensures.woken ∙ c.loop-place.invariant.woken);
    away = λ thread is on. rw w.self-is (ap (λ (s : State). stands_for (elements s) on thread) w.wake-in-Some-Got.ensures.woken
        ∙ c.loop-place.invariant.away thread (later_served c.args.served.now c.loop-place.place (Got w.in-Some-Got.thread.0 w.in-Some-Got.bytes.now) (sym (rw w.in-Some-Got.field-0-is at w.in-Some-Got.ensures.service)) thread is) on);
    stands = rw w.self-is (keeps-both c.args.self.now c.loop-place.self w.wake-in-Some-Got.new.self c.loop-place.invariant.stands w.wake-in-Some-Got.ensures.stands);
  }
  | in-None w ↦ record {
    woken = rw w.self-is (ap (λ (xs : List Service). all_woken (state_of c.loop-place.self) (map service_told xs)) (beyond_all c.args.served.now c.loop-place.place (sym w.in-None.ensures.service)) ∙ c.loop-place.invariant.woken);
    away = λ thread is on. rw w.self-is (c.loop-place.invariant.away thread
        (sym (ap (λ (xs : List Service). is_served thread (map service_told xs)) (beyond_all c.args.served.now c.loop-place.place (sym w.in-None.ensures.service))) ∙ is) on);
    stands = rw w.self-is c.loop-place.invariant.stands;
  }
]
