-- The laws of every state that steps on the clock leave, and of every state that the play of a due item leaves.
use Rattle.std.proofs.Common.{◌≡◌, ℕ, nat_le, Bool, true, false, not, [], ◌∷◌, Option, Some, None, unwrap_or, slice_get, if◌then◌else◌, refl, sym, subst}
use Rattle.std.proofs.lemmas.Bool.{false≢true}
use Rattle.evl_base.specs.declared.refusal.Refusal.TheVariants.{Invalid, Busy}
use Rattle.evl_pipeline.specs.declared.answer.Answer.{Answer}
use Rattle.evl_clock.specs.declared.due.Item.{Item}
use Rattle.evl_clock.specs.declared.due.Item.TheVariants as item
use Rattle.evl_clock.specs.declared.timer.Timer.{Timer}
use Rattle.evl_clock.specs.Timers.{is_timer_allowed}
use Rattle.evl_clock.specs.Clocks as clocks
use Rattle.evl_clock.specs.ClockSteps.{fired}
use Rattle.evl_clock.specs.Dues.{next_due, is_due}
use Rattle.evl_kernel.specs.state.States.{State, Banked, with_clock, with_banked, come_home}
use Rattle.evl_kernel.specs.calls.Effects.{Effect, unless}
use Rattle.evl_kernel.specs.calls.TimerCalls as timer_call
use Rattle.evl_kernel.specs.calls.ThreadCalls as thread_call
use Rattle.evl_kernel.specs.calls.Families.{ClockStep, tick, read_date, new_timer, start_timer, stop_timer, drop_timer, overruns, clock_effect}
use Rattle.evl_kernel.specs.settling.Settling.{after_answer, deadline_left, timer_given, timer_played, no_timer, item_played}
use Rattle.evl_kernel.proofs.calls.LeavesLaws.{Leaves, leaves-refused, leaves-known}
use Rattle.evl_kernel.proofs.settling.DueLaws.{timer_found}

-- each change of the clock keeps this, and so does whatever a tick costs
pub record KeptByClock (P : State → Type 0) : Type 0 where
  pub posted : (s : State) → P s → P (timer_call.posted_clock s)
  pub charged : (s : State) (before delta now : ℕ) → P s → P (thread_call.paid_between s before delta now)
  pub advanced : (s : State) (delta : ℕ) → P s → P (with_clock s (clocks.advanced s.clock delta))
  pub made : (s : State) (n number tag : ℕ) (b : Banked) → P s → slice_get s.bank number ≡ Some b → b.home ≡ true → is_timer_allowed b.handler.kinds ≡ true → clocks.free_place s.clock ≡ Some n
      → P (with_banked (with_clock s (clocks.with_new_timer s.clock n number tag)) false number b)
  pub started : (s : State) (n date interval : ℕ) → P s → P (with_clock s (clocks.start s.clock n date interval))
  pub stopped : (s : State) (n : ℕ) → P s → P (with_clock s (clocks.stop s.clock n))
  pub dropped : (s : State) (n : ℕ) (t : Timer ℕ) → P s → clocks.timer_at s.clock n ≡ Some t → P (come_home (with_clock s (clocks.dropped s.clock n)) t.callback)

module _ (P : State → Type 0) (k : KeptByClock P) where
  alarmed : (s : State) → P s → P (timer_call.alarmed s)
  alarmed s h = by (is_due s.clock)
    where
      by : (b : Bool) → P (if b then timer_call.posted_clock s else s)
      by true = k.posted s h
      by false = h

  started : (s : State) (n date interval : ℕ) → P s → P (timer_call.with_running s n date interval)
  started s n date interval h = by (nat_le date s.clock.now)
    where
      after : State
      after = with_clock s (clocks.start s.clock n date interval)

      by : (b : Bool) → P (if b then timer_call.posted_clock after else after)
      by true = k.posted after (k.started s n date interval h)
      by false = k.started s n date interval h

  is_true : (b : Bool) → not b ≡ false → b ≡ true
  is_true true e = refl
  is_true false e = absurd (false≢true (sym e))

  unrefused : (b c : Bool) (e : Effect) → (b ≡ false → c ≡ false → Leaves P e) → Leaves P (unless ((b, Invalid) ∷ (c, Busy) ∷ []) e)
  unrefused true c e h = tt
  unrefused false true e h = tt
  unrefused false false e h = h refl refl

  placed : (s : State) (number tag : ℕ) (b : Banked) → P s → slice_get s.bank number ≡ Some b → b.home ≡ true → is_timer_allowed b.handler.kinds ≡ true
      → (o : Option ℕ) → clocks.free_place s.clock ≡ o → Leaves P (timer_call.place_timer s number tag b o)
  placed s number tag b h here home allowed None is = tt
  placed s number tag b h here home allowed (Some n) is = k.made s n number tag b h here home allowed is

  pub leaves-stop : (s : State) (n : ℕ) → P s → Leaves P (timer_call.stop_timer s n)
  leaves-stop s n h = leaves-refused P (clocks.timer_refusal s.clock n) _ (λ passed. k.stopped s n h)

  pub leaves-clock : (s : State) (step : ClockStep) → P s → Leaves P (clock_effect s step)
  leaves-clock s (tick delta) h = leaves-refused P (clocks.advance_refusal s.clock delta) _ (λ passed.
      alarmed (timer_call.at_date (timer_call.paid s delta) delta) (k.advanced (timer_call.paid s delta) delta (k.charged s s.clock.now delta (clocks.advanced s.clock delta).now h)))
  leaves-clock s read_date h = h
  leaves-clock s (new_timer number tag) h = leaves-known P (slice_get s.bank number) _ (λ b here.
      unrefused (not (is_timer_allowed b.handler.kinds)) (not b.home) _ (λ allowed home. placed s number tag b h here (is_true b.home home) (is_true (is_timer_allowed b.handler.kinds) allowed) (clocks.free_place s.clock) refl))
  leaves-clock s (start_timer timer date interval) h = leaves-refused P (clocks.timer_refusal s.clock timer) _ (λ passed. started s timer date interval h)
  leaves-clock s (stop_timer timer) h = leaves-stop s timer h
  leaves-clock s (drop_timer timer) h = leaves-known P (clocks.timer_at s.clock timer) _ (λ t there. k.dropped s timer t h there)
  leaves-clock s (overruns timer) h = leaves-known P (clocks.timer_at s.clock timer) _ (λ t there. h)

  -- a due item
  pub leaves-item : ((s : State) (n : ℕ) (t : Timer ℕ) → P s → clocks.timer_at s.clock n ≡ Some t → P (with_clock s (fired s.clock n t)))
      → ((s : State) (thread : ℕ) → P s → P (deadline_left s thread).1)
      → ((s : State) (line : ℕ) (answer : Answer) → P s → P (after_answer s line answer))
      → (s : State) (found : Item) → P s → next_due s.clock ≡ Some found → P (item_played s found).1
  leaves-item fires gone answers s (item.Deadline thread) h due = gone s thread.0 h
  leaves-item fires gone answers s (item.Timer id) h due =
      let found = timer_found s.clock id due in
      subst (λ (o : Option (Timer ℕ)). P (timer_played s id.0 (unwrap_or o no_timer)).1) (sym found.1)
      (answers (with_clock s (fired s.clock id.0 found.0)) 0 (timer_given s found.0) (fires s id.0 found.0 h found.1))
