-- All that each call, each play and each run keeps, where each kind of change keeps it.
use Rattle.std.proofs.Common.{◌≡◌, inl, inr, ℕ, Bool, true≢false, false, List, [], ◌∷◌, Option, Some, None, Result, Ok, Err, refl, sym, subst}
use Rattle.evl_base.specs.declared.call.Call.{Call}
use Rattle.evl_base.specs.declared.entry.Entry.{Entry}
use Rattle.evl_base.specs.declared.play.Play.{Play}
use Rattle.evl_base.specs.declared.refusal.Refusal.{Refusal}
use Rattle.evl_base.specs.declared.reply.Reply.{Reply}
use Rattle.evl_pipeline.specs.Lines as lines
use Rattle.evl_clock.specs.Clocks.{Clock}
use Rattle.evl_kernel.specs.declared.waits.Wanted.{Wanted}
use Rattle.evl_kernel.specs.state.States.{State, Banked, with_lines, with_clock, with_banked}
use Rattle.evl_kernel.specs.calls.Effects.{Effect}
use Rattle.evl_kernel.specs.calls.Mutexes as mutex
use Rattle.evl_kernel.specs.calls.Elements.{ElementStep, on_sem, on_flags, on_xbuf, on_mutex, touched}
use Rattle.evl_kernel.specs.calls.ThreadCalls as thread_call
use Rattle.evl_kernel.specs.waiting.Beginnings.{beginning}
use Rattle.evl_kernel.specs.waiting.Endings.{finish}
use Rattle.evl_sched.specs.Threads.{stage_of}
use Rattle.evl_kernel.specs.calls.Families.{ThreadStep, thread_effect, Task, on_lines, on_clock, on_threads, on_element, on_staged, begins, ends, performing, task_of, raises}
use Rattle.evl_kernel.specs.calls.Serving.{general_refusal, answer}
use Rattle.evl_kernel.specs.settling.Settling.{deadline_left}
use Rattle.evl_kernel.specs.histories.Histories.{Run, Follows}
use Rattle.evl_kernel.proofs.calls.QueueLaws.{IsAsked, asks_raise}
use Rattle.evl_kernel.proofs.calls.AskedSteps.{AsksPlainly, IsCalled, MayRaise, asks, leaves-told}
use Rattle.evl_kernel.proofs.calls.LeavesLaws.{Leaves, leaves-refused}
use Rattle.evl_kernel.proofs.calls.ClockSteps.{KeptByClock, leaves-clock}
use Rattle.evl_kernel.specs.calls.OwnerCalls.{raiser_refusal}
use Rattle.evl_kernel.specs.histories.MutexRests.{is_of_mutexes}
use Rattle.evl_kernel.proofs.settling.PlayWalk.{KeptByPlays, holds-home, holds-line, settles_holds}

-- each kind of change keeps this
pub record KeptByEach (P : State → Type 0) : Type 0 where
  pub lined : (s : State) (q : lines.Pipeline ℕ) → P s → P (with_lines s q)
  pub banked : (s : State) (number : ℕ) (home : Bool) (b : Banked) → P s → P (with_banked s home number b)
  pub clocked : (s : State) (c : Clock ℕ) → c.deadlines ≡ s.clock.deadlines → P s → P (with_clock s c)
  pub paid : (s : State) (before delta now : ℕ) → P s → P (thread_call.paid_between s before delta now)
  pub asked : (s : State) (by : Option ℕ) (step : ElementStep) → IsAsked step → MayRaise s step → P s → Leaves P (touched s by step).effect
  pub expired : (s : State) (thread : ℕ) → P s → P (deadline_left s thread).1

-- and each kind of step that is its caller's own
pub record KeptByOwn (P : State → Type 0) (s : State) (caller : ℕ) (asked : Call) : Type 0 where
  pub threads : (step : ThreadStep) → task_of asked ≡ on_threads step → general_refusal s caller asked ≡ None → P s → Leaves P (thread_effect s caller step)
  pub begun : (wants : Wanted) (until : Option ℕ) → task_of asked ≡ begins wants until → general_refusal s caller asked ≡ None → P s → Leaves P (beginning s caller wants until).effect
  pub ended : (keep : Bool) → task_of asked ≡ ends keep → P s → Leaves P (finish s caller keep)

-- the steps that plays ask for raise nobody
may_raise : (s : State) (step : ElementStep) → is_of_mutexes step ≡ false → MayRaise s step
may_raise s (on_sem n step) other = tt
may_raise s (on_flags n step) other = tt
may_raise s (on_xbuf n step) other = tt
may_raise s (on_mutex n step) other = absurd (true≢false other)

module _ (P : State → Type 0) (k : KeptByEach P) where
  by_plays : KeptByPlays P
  by_plays = record {
    lined = k.lined;
    banked = k.banked;
    clocked = λ s c same still h. k.clocked s c same h;
    acted = λ s step asked other h. k.asked s None step asked (may_raise s step other) h;
    expired = λ s thread date is h. k.expired s thread h;
  }

  kept_by_clock : KeptByClock P
  kept_by_clock = record {
    posted = λ s h. k.lined s _ h;
    charged = λ s before delta now h. k.paid s before delta now h;
    advanced = λ s delta h. k.clocked s _ refl h;
    made = λ s n number tag b h here home allowed free. k.banked (with_clock s _) number false b (k.clocked s _ refl h);
    started = λ s n date interval h. k.clocked s _ refl h;
    stopped = λ s n h. k.clocked s _ refl h;
    dropped = λ s n t h there. holds-home P by_plays (with_clock s _) t.callback (k.clocked s _ refl h);
  }

  holds-called : (s : State) (caller : ℕ) (step : ElementStep) → IsCalled step → P s → Leaves P (touched s (Some caller) step).effect
  holds-called s caller step (inl tells) h = leaves-told P s (Some caller) step tells h
  holds-called s caller step (inr plain) h = k.asked s (Some caller) step plain.0 (plain.1 s) h

  pub holds-answer : (s : State) (caller : ℕ) (asked : Call) → KeptByOwn P s caller asked → P s → Leaves P (answer s caller asked)
  holds-answer s caller asked own h = leaves-refused P (general_refusal s caller asked) _ (λ passed. by (task_of asked) refl (asks asked) passed)
    where
      by : (task : Task) → task_of asked ≡ task → AsksPlainly task → general_refusal s caller asked ≡ None → Leaves P (performing s caller task).effect
      by (on_lines step) is plain passed = holds-line P by_plays s step h
      by (on_clock step) is plain passed = leaves-clock P kept_by_clock s step h
      by (on_threads step) is plain passed = own.threads step is passed h
      by (on_element step) is plain passed = holds-called s caller step plain h
      by (on_staged step_from) is plain passed = holds-called s caller (step_from caller (stage_of s.sched caller)) (plain caller (stage_of s.sched caller)) h
      by (raises n) is plain passed = leaves-refused P (raiser_refusal s caller n) _ (λ may. k.asked s (Some caller) (on_mutex n (mutex.raise caller)) (asks_raise n caller) may h)
      by (begins wants until) is plain passed = own.begun wants until is passed h
      by (ends keep) is plain passed = own.ended keep is h

  pub follows_holds : (old : State) (effect : Effect) (reply : Result Reply Refusal) (plays : List Play) (new : State) → P old → Leaves P effect → Follows old effect reply plays new → P new
  follows_holds old (Err refusal) reply plays new h left p = subst P (sym p.2) h
  follows_holds old (Ok (said, changed)) reply plays new h left (is, settles) = settles_holds P by_plays changed new plays left settles

  -- where every caller's own steps keep it, it holds along a run
  pub run_holds : ((s : State) (caller : ℕ) (asked : Call) → KeptByOwn P s caller asked) → (old : State) (entries : List Entry) (plays : List Play) (new : State) → P old → Run old entries plays new → P new
  run_holds own old [] plays new h run = subst P (sym run.1) h
  run_holds own old (e ∷ entries) plays new h (mine, rest, mid, split, (counted, step), run) =
      run_holds own mid entries rest new (follows_holds old (answer old e.caller.0 e.call) e.reply mine mid h (holds-answer old e.caller.0 e.call (own old e.caller.0 e.call) h) step) run
