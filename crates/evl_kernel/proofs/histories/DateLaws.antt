-- The date: a tick moves it, and nothing else does.
use Rattle.std.proofs.Common.{◌≡◌, ℕ, ◌+◌, nat_le, not, Bool, true, false, [], ◌∷◌, List, Option, Some, None, Ok, Err, slice_get, refl, ◌∙◌, arith}
use Rattle.evl_base.specs.declared.play.Play.{Play}
use Rattle.evl_base.specs.declared.refusal.Refusal.TheVariants.{Busy, Invalid}
use Rattle.evl_base.specs.declared.reply.Reply.{Reply}
use Rattle.evl_clock.specs.Clocks as clocks
use Rattle.evl_clock.specs.Timers.{is_timer_allowed}
use Rattle.evl_sched.specs.Threads.{stage_of}
use Rattle.evl_kernel.specs.state.States.{State, Banked, with_clock}
use Rattle.evl_kernel.specs.calls.Effects.{Effect, unless}
use Rattle.evl_kernel.specs.calls.Families.{ClockStep, tick, read_date, new_timer, start_timer, stop_timer, drop_timer, overruns, clock_effect, Task, on_lines, on_clock, on_threads, on_element, on_staged, raises, begins, ends, performing, task_of, time_of}
use Rattle.evl_kernel.specs.calls.Serving.{answer, general_refusal}
use Rattle.evl_kernel.specs.calls.TimerCalls as timer_call
use Rattle.evl_kernel.specs.histories.Histories.{Follows}
use Rattle.evl_kernel.specs.histories.Laws.{TicksMoveTheDate}
use Rattle.evl_kernel.proofs.calls.LeavesLaws.{Leaves, leaves-refused, leaves-known}
use Rattle.evl_kernel.proofs.calls.ThreadSteps.{leaves-threads}
use Rattle.evl_kernel.proofs.settling.PlayWalk.{KeptByPlays, holds-home, holds-line, settles_holds}
use Rattle.evl_kernel.proofs.waiting.WaitSteps.{KeptByWakes, kept-deadline, leaves-beginning, leaves-finish, leaves-raising, leaves-touched, timed-by}

-- the date is this one
module _ (date : ℕ) where
  abbrev IsDate : State → Type 0
  IsDate s = s.clock.now ≡ date

  waking : KeptByWakes IsDate
  waking = record { changed = λ s e h. h; waiting = λ s thread wait h. h; freed = λ s thread h. h; queued = λ s ready h. h }

  playing : KeptByPlays IsDate
  playing = record {
    lined = λ s q h. h;
    banked = λ s number home b h. h;
    clocked = λ s c same still h. still ∙ h;
    acted = λ s step asked other h. leaves-touched IsDate waking s None step h;
    expired = λ s thread due is h. kept-deadline IsDate waking s thread h;
  }

  posted : (s : State) (due : Bool) → IsDate s → IsDate (timer_call.posted_if due s)
  posted s true h = h
  posted s false h = h

  allowed : (b c : Bool) (e : Effect) → Leaves IsDate e → Leaves IsDate (unless ((b, Invalid) ∷ (c, Busy) ∷ []) e)
  allowed true c e h = tt
  allowed false true e h = tt
  allowed false false e h = h

  placed : (s : State) (number tag : ℕ) (b : Banked) (o : Option ℕ) → IsDate s → Leaves IsDate (timer_call.place_timer s number tag b o)
  placed s number tag b None h = tt
  placed s number tag b (Some n) h = h

  timed : (s : State) (step : ClockStep) → s.clock.now + time_of (on_clock step) ≡ date → Leaves IsDate (clock_effect s step)
  timed s (tick delta) h = leaves-refused IsDate (clocks.advance_refusal s.clock delta) _ (λ passed. posted (timer_call.at_date (timer_call.paid s delta) delta) _ h)
  timed s read_date h = omega (arith, h)
  timed s (new_timer number tag) h = let still : s.clock.now ≡ date = omega (arith, h) in
      leaves-known IsDate (slice_get s.bank number) _ (λ b here.
      allowed (not (is_timer_allowed b.handler.kinds)) (not b.home) _ (placed s number tag b (clocks.free_place s.clock) still))
  timed s (start_timer timer at interval) h = let still : s.clock.now ≡ date = omega (arith, h) in
      leaves-refused IsDate (clocks.timer_refusal s.clock timer) _ (λ passed. posted (with_clock s (clocks.start s.clock timer at interval)) (nat_le at s.clock.now) still)
  timed s (stop_timer timer) h = let still : s.clock.now ≡ date = omega (arith, h) in
      leaves-refused IsDate (clocks.timer_refusal s.clock timer) _ (λ passed. still)
  timed s (drop_timer timer) h = let still : s.clock.now ≡ date = omega (arith, h) in
      leaves-known IsDate (clocks.timer_at s.clock timer) _ (λ t there. holds-home IsDate playing (with_clock s (clocks.dropped s.clock timer)) t.callback still)
  timed s (overruns timer) h = let still : s.clock.now ≡ date = omega (arith, h) in
      leaves-known IsDate (clocks.timer_at s.clock timer) _ (λ t there. still)

  performed : (s : State) (caller : ℕ) (task : Task) → s.clock.now + time_of task ≡ date → Leaves IsDate (performing s caller task).effect
  performed s caller (on_lines step) h = holds-line IsDate playing s step (omega (arith, h))
  performed s caller (on_clock step) h = timed s step h
  performed s caller (on_threads step) h = leaves-threads IsDate (λ x q hx. hx) s caller step (omega (arith, h))
  performed s caller (on_element step) h = leaves-touched IsDate waking s (Some caller) step (omega (arith, h))
  performed s caller (on_staged step_from) h = leaves-touched IsDate waking s (Some caller) (step_from caller (stage_of s.sched caller)) (omega (arith, h))
  performed s caller (raises n) h = leaves-raising IsDate waking s caller n (omega (arith, h))
  performed s caller (begins wants until) h =
      leaves-beginning IsDate waking (timed-by IsDate waking (λ x hx. hx) (λ x thread until hx. hx)) s caller wants until (omega (arith, h))
  performed s caller (ends keep) h = leaves-finish IsDate waking s caller keep (λ x hx. hx) (omega (arith, h))

  settled : (old : State) (effect : Effect) (given : Reply) (plays : List Play) (new : State) → Leaves IsDate effect → Follows old effect (Ok given) plays new → IsDate new
  settled old (Err refusal) given plays new left (is, nothing, same) = absurd (cc)
  settled old (Ok (said, changed)) given plays new left (is, settles) = settles_holds IsDate playing changed new plays left settles

pub ticks_move : TicksMoveTheDate
ticks_move old caller asked given plays new step =
    let date = old.clock.now + time_of (task_of asked) in
    settled date old (answer old caller asked) given plays new
    (leaves-refused (IsDate date) (general_refusal old caller asked) _ (λ passed. performed date old caller (task_of asked) refl)) step
