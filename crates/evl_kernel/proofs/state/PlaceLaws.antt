-- Each callback of the bank is counted once, and each call and each play keeps that.
use Rattle.std.proofs.Common.{◌≡◌, ℕ, zero, suc, ◌+◌, ◌==◌, ◌<◌, ◌≤◌, nat_lt, Bool, true, false, not, cond, List, [], ◌∷◌, length, map, Option, Some, None, Result, Ok, Err, is_some, unwrap_or, slice_get, replicate, if◌then◌else◌, refl, sym, ap, ◌∙◌, subst, arith}
use Rattle.std.specs.Option.{option_map_or}
use Rattle.std.proofs.lemmas.Bool.{false≢true}
use Rattle.std.proofs.lemmas.List.{length-map, length-set}
use Rattle.std.proofs.lemmas.Bool.Decides.{nat_tests}
use Rattle.evl_base.specs.declared.board.Board.{Board}
use Rattle.evl_base.specs.declared.stage.Stage.{Stage}
use Rattle.evl_base.specs.declared.stage.Stage.TheVariants.{Inband, Oob}
use Rattle.evl_base.specs.declared.call.Call.{Call}
use Rattle.evl_base.specs.declared.entry.Entry.{Entry}
use Rattle.evl_base.specs.declared.play.Play.{Play}
use Rattle.evl_base.specs.declared.reply.Reply.{Reply}
use Rattle.evl_base.specs.declared.refusal.Refusal.{Refusal}
use Rattle.evl_base.specs.declared.refusal.Refusal.TheVariants.{Busy}
use Rattle.evl_pipeline.specs.declared.action.Action.{Action}
use Rattle.evl_pipeline.specs.declared.action.Action.TheVariants.{PostSem, PostFlags, Propagate, PostOob, StopTimer}
use Rattle.evl_pipeline.specs.declared.answer.Answer.{Answer}
use Rattle.evl_pipeline.specs.Counts.{count_raised as counted, one_more}
use Rattle.evl_pipeline.specs.Limits.{line_count}
use Rattle.evl_pipeline.specs.Lines as lines
use Rattle.evl_pipeline.proofs.PortLaws.{within}
use Rattle.evl_pipeline.proofs.LineLaws.{sound-opening, sound-set_stalled, sound-cleared, sound-filled, sound-played, sound-emptied, clock-only, request-not_clock}
use Rattle.evl_clock.specs.declared.due.Item.{Item}
use Rattle.evl_clock.specs.declared.timer.Timer.{Timer}
use Rattle.evl_clock.specs.Timers as timers
use Rattle.evl_clock.specs.Timers.{made}
use Rattle.evl_clock.specs.Clocks as clocks
use Rattle.evl_clock.specs.Clocks.{Clock, IsSoundClock, timer_at, free_place, with_deadline, with_new_timer, dropped}
use Rattle.evl_clock.specs.Dues.{next_due}
use Rattle.evl_sched.specs.Threads.{Sched}
use Rattle.evl_sched.specs.Picks.{is_anyone_eligible}
use Rattle.evl_kernel.specs.state.States.{State, with_sched, Handler, Banked, with_lines, with_clock, with_banked, come_home}
use Rattle.evl_kernel.specs.calls.Effects.{Effect, done}
use Rattle.evl_kernel.specs.settling.Paths.{Along}
use Rattle.evl_kernel.specs.calls.Semaphores.{put}
use Rattle.evl_kernel.specs.calls.FlagGroups as group
use Rattle.evl_kernel.specs.calls.Elements.{on_sem, on_flags}
use Rattle.evl_kernel.specs.calls.LineCalls as line_call
use Rattle.evl_sched.specs.Threads.{stage_of}
use Rattle.evl_kernel.specs.calls.Families.{LineStep, request, free, arrive, post, stall, unstall, line_effect, Task, on_lines, on_clock, on_threads, on_element, on_staged, begins, ends, performing, task_of, raises}
use Rattle.evl_kernel.specs.calls.Serving.{general_refusal, answer}
use Rattle.evl_kernel.specs.settling.Settling.{Settling, next_play, item_played, after_action, all_acted, after_answer, answer_given, pending_played, line_played, clock_played, after_call, nothing}
use Rattle.evl_kernel.specs.state.Openings.{opening, at_home}
use Rattle.evl_kernel.specs.histories.Histories.{Run, Follows}
use Rattle.evl_kernel.specs.state.Records.{banked}
use Rattle.evl_clock.specs.Limits.{timer_count}
use Rattle.evl_kernel.proofs.settling.DueLaws.{one_played, item_due}
use Rattle.evl_kernel.proofs.state.TimerLaws.{sound-with_timer, sound-with_deadline, sound-advanced, sound-start, sound-stop}
use Rattle.evl_kernel.proofs.state.OpeningLaws.{sound_opening}
use Rattle.evl_kernel.proofs.calls.LeavesLaws.{Leaves, leaves-refused, leaves-known, leaves-if_done}
use Rattle.evl_kernel.proofs.calls.ClockSteps.{KeptByClock, leaves-clock, leaves-stop, leaves-item}
use Rattle.evl_kernel.proofs.calls.ThreadSteps.{leaves-threads}
use Rattle.evl_kernel.proofs.waiting.WaitSteps.{KeptByWakes, kept-deadline, leaves-touched, leaves-beginning, leaves-finish, timed-by, leaves-raising}
use Rattle.evl_kernel.proofs.histories.SilenceLaws.{below_limit, sound-posted, sound-arrived, free-not_clock}
use Rattle.evl_kernel.proofs.histories.WorldLaws.{chosen, chosen_pends}
use Rattle.evl_kernel.specs.state.Limits.{inband_limit}
use Rattle.evl_kernel.proofs.state.CountLaws.{stood, one_home, one_banked, timed, places, bank-set, in_tables, in-set, in-same, in-posted, in-arrived, request_free, home_is, free_found, timed-changed, timed-set, fired_same, free_there}

module _ (size : ℕ) where
  pub record IsPlaced (s : State) : Type 0 where
    pub once : (n : ℕ) → places s n ≡ one_banked (slice_get s.bank n)
    pub size_is : length s.bank ≡ size
    pub sound : lines.IsSoundPipeline s.lines
    pub clock_sound : IsSoundClock s.clock

  -- other lines with the same on them
  placed-lines : (s : State) (q : lines.Pipeline ℕ) → IsPlaced s → ((n : ℕ) → in_tables n q ≡ in_tables n s.lines) → lines.IsSoundPipeline q → IsPlaced (with_lines s q)
  placed-lines s q h same sound = record { once = λ n. omega (arith, h.once n, same n); size_is = h.size_is; sound = sound; clock_sound = h.clock_sound }

  placed-post : (s : State) (stage : Stage) (line : ℕ) → IsPlaced s → Leaves IsPlaced (line_call.post s stage line)
  placed-post s stage line h = leaves-refused IsPlaced (lines.post_refusal line) _ (λ none.
      placed-lines s (lines.posted s.lines stage line) h (λ n. in-posted n s.lines stage line) (sound-posted s.lines stage line h.sound (below_limit line none)))

  -- the first refusal doesn't apply
  leaves-passed : (b : Bool) (refusal : Refusal) (e : Effect) → (b ≡ false → Leaves IsPlaced e) → Leaves IsPlaced (Rattle.evl_kernel.specs.calls.Effects.unless ((b, refusal) ∷ []) e)
  leaves-passed true refusal e h = tt
  leaves-passed false refusal e h = h refl

  placed-requested : (s : State) (line : ℕ) (stage : Stage) (number tag : ℕ) (b : Banked) → IsPlaced s → slice_get s.bank number ≡ Some b → b.home ≡ true
      → lines.request_refusal s.lines line stage b.handler.kinds ≡ None → IsPlaced (with_banked (with_lines s (lines.requested s.lines line stage number tag)) false number b)
  placed-requested s line stage number tag b h here home passed = record {
    once = λ n.
        let vacant = request_free s.lines line stage b.handler.kinds passed in
        let bank = bank-set s.bank number n b (record b { home = false }) here in
        let table = in-set n s.lines stage (lines.filled (lines.side s.lines stage) line number tag) line None (Some (record { callback = number; tag = tag; count = 0 })) h.sound refl vacant.1 vacant.0 in
        let was : ◌≡◌ {A = ℕ} (cond b.home 1 0) 1 = ap {B = ℕ} (λ (c : Bool). cond c 1 0) home in
        count n (number == n) (rw was at bank.0) bank.1 table (h.once n);
    size_is = length-set s.bank number (record b { home = false }) ∙ h.size_is;
    sound = sound-filled s.lines stage line number tag h.sound (request-not_clock s.lines line stage b.handler.kinds passed);
    clock_sound = h.clock_sound;
  }
    where
      new : State
      new = with_banked (with_lines s (lines.requested s.lines line stage number tag)) false number b

      count : (n : ℕ) (same : Bool)
          → one_home (slice_get new.bank n) + cond same 1 0 ≡ one_home (slice_get s.bank n) + cond same 0 0
          → one_banked (slice_get new.bank n) ≡ one_banked (slice_get s.bank n)
          → in_tables n new.lines + 0 ≡ in_tables n s.lines + cond same 1 0
          → places s n ≡ one_banked (slice_get s.bank n) → places new n ≡ one_banked (slice_get new.bank n)
      count n true bank banked table all = omega (arith, bank, banked, table, all)
      count n false bank banked table all = omega (arith, bank, banked, table, all)

  placed-freed : (s : State) (line : ℕ) (stage : Stage) → IsPlaced s → lines.free_refusal s.lines line stage ≡ None
      → IsPlaced (line_call.with_callback_back (with_lines s (lines.freed s.lines line stage)) (lines.installed_at s.lines stage line))
  placed-freed s line stage h passed =
      let found = free_found s.lines line stage passed in
      subst (λ (o : Option (lines.Installed ℕ)). IsPlaced (line_call.with_callback_back mid o)) (sym found.2) (by found.0 found.1 found.2 (slice_get s.bank found.1.callback) refl)
    where
      mid : State
      mid = with_lines s (lines.freed s.lines line stage)

      sound : lines.IsSoundPipeline mid.lines
      sound = sound-emptied s.lines stage line h.sound (free-not_clock s.lines line stage passed)

      table : (n : ℕ) (at : lines.Installed ℕ) → line < line_count → lines.installed_at s.lines stage line ≡ Some at → in_tables n mid.lines + cond (at.callback == n) 1 0 ≡ in_tables n s.lines + 0
      table n at below there = in-set n s.lines stage (lines.emptied (lines.side s.lines stage) line) line (Some at) None h.sound refl there below

      same : (n : ℕ) → (n == n) ≡ true
      same n = grind (arith, nat_tests)

      -- it is on the line alone
      away : (at : lines.Installed ℕ) (o : Option Banked) → line < line_count → lines.installed_at s.lines stage line ≡ Some at → slice_get s.bank at.callback ≡ o → (1 ≤ one_banked o) × (one_home o ≡ 0)
      away at o below there bank =
          let all : one_home o + (in_tables at.callback s.lines + timed at.callback s.clock.timers) ≡ one_banked o =
          subst (λ (x : Option Banked). one_home x + (in_tables at.callback s.lines + timed at.callback s.clock.timers) ≡ one_banked x) bank (h.once at.callback) in
          let less : in_tables at.callback mid.lines + 1 ≡ in_tables at.callback s.lines + 0 = subst (λ (c : Bool). in_tables at.callback mid.lines + cond c 1 0 ≡ in_tables at.callback s.lines + 0) (same at.callback) (table at.callback at below there) in
          cases o all less
        where
          cases : (o : Option Banked) → one_home o + (in_tables at.callback s.lines + timed at.callback s.clock.timers) ≡ one_banked o → in_tables at.callback mid.lines + 1 ≡ in_tables at.callback s.lines + 0 → (1 ≤ one_banked o) × (one_home o ≡ 0)
          cases None all less = absurd (omega (arith, all, less))
          cases (Some b) all less = (omega arith, omega (arith, all, less))

      by : line < line_count → (at : lines.Installed ℕ) → lines.installed_at s.lines stage line ≡ Some at → (o : Option Banked) → slice_get s.bank at.callback ≡ o
          → IsPlaced (option_map_or (with_banked mid true at.callback) o mid)
      by below at there None bank = absurd (omega (arith, (away at None below there bank).0))
      by below at there (Some b) bank = record {
        once = λ n.
            let was : ◌≡◌ {A = ℕ} (cond b.home 1 0) 0 = (away at (Some b) below there bank).1 in
            let set = bank-set s.bank at.callback n b (record b { home = true }) bank in
            count n (at.callback == n) (rw was at set.0) set.1 (table n at below there) (h.once n);
        size_is = length-set s.bank at.callback (record b { home = true }) ∙ h.size_is;
        sound = sound;
        clock_sound = h.clock_sound;
      }
        where
          new : State
          new = with_banked mid true at.callback b

          count : (n : ℕ) (same : Bool)
              → one_home (slice_get new.bank n) + cond same 0 0 ≡ one_home (slice_get s.bank n) + cond same 1 0
              → one_banked (slice_get new.bank n) ≡ one_banked (slice_get s.bank n)
              → in_tables n new.lines + cond same 1 0 ≡ in_tables n s.lines + 0
              → places s n ≡ one_banked (slice_get s.bank n) → places new n ≡ one_banked (slice_get new.bank n)
          count n true home banked lines_are all = omega (arith, home, banked, lines_are, all)
          count n false home banked lines_are all = omega (arith, home, banked, lines_are, all)

  -- another clock whose timers hold the same
  placed-clock : (s : State) (c : Clock ℕ) → IsPlaced s → ((n : ℕ) → timed n c.timers ≡ timed n s.clock.timers) → IsSoundClock c → IsPlaced (with_clock s c)
  placed-clock s c h same sound = record { once = λ n. omega (arith, h.once n, same n); size_is = h.size_is; sound = h.sound; clock_sound = sound }

  placed-made : (s : State) (i number tag : ℕ) (b : Banked) → IsPlaced s → slice_get s.bank number ≡ Some b → b.home ≡ true → free_place s.clock ≡ Some i
      → IsPlaced (with_banked (with_clock s (with_new_timer s.clock i number tag)) false number b)
  placed-made s i number tag b h here home place_is = record {
    once = λ n.
        let vacant = free_there s.clock i place_is in
        let bank = bank-set s.bank number n b (record b { home = false }) here in
        let table = timed-set n s.clock.timers i None (Some (made number tag)) vacant.0 vacant.1 in
        let was : ◌≡◌ {A = ℕ} (cond b.home 1 0) 1 = ap {B = ℕ} (λ (c : Bool). cond c 1 0) home in
        count n (number == n) (rw was at bank.0) bank.1 table (h.once n);
    size_is = length-set s.bank number (record b { home = false }) ∙ h.size_is;
    sound = h.sound;
    clock_sound = sound-with_timer s.clock i _ h.clock_sound;
  }
    where
      new : State
      new = with_banked (with_clock s (with_new_timer s.clock i number tag)) false number b

      count : (n : ℕ) (same : Bool)
          → one_home (slice_get new.bank n) + cond same 1 0 ≡ one_home (slice_get s.bank n) + cond same 0 0
          → one_banked (slice_get new.bank n) ≡ one_banked (slice_get s.bank n)
          → timed n new.clock.timers + 0 ≡ timed n s.clock.timers + cond same 1 0
          → places s n ≡ one_banked (slice_get s.bank n) → places new n ≡ one_banked (slice_get new.bank n)
      count n true bank banked table all = omega (arith, bank, banked, table, all)
      count n false bank banked table all = omega (arith, bank, banked, table, all)

  placed-dropped : (s : State) (i : ℕ) (t : Timer ℕ) → IsPlaced s → timer_at s.clock i ≡ Some t → IsPlaced (come_home (with_clock s (dropped s.clock i)) t.callback)
  placed-dropped s i t h there = by (slice_get s.bank t.callback) refl
    where
      mid : State
      mid = with_clock s (dropped s.clock i)

      table : (n : ℕ) → timed n mid.clock.timers + cond (t.callback == n) 1 0 ≡ timed n s.clock.timers + 0
      table n = timed-set n s.clock.timers i (Some t) None there (within s.clock.timers i t there)

      same : (n : ℕ) → (n == n) ≡ true
      same n = grind (arith, nat_tests)

      -- it is in the timer alone
      away : (o : Option Banked) → slice_get s.bank t.callback ≡ o → (1 ≤ one_banked o) × (one_home o ≡ 0)
      away o bank =
          let all : one_home o + (in_tables t.callback s.lines + timed t.callback s.clock.timers) ≡ one_banked o =
          subst (λ (x : Option Banked). one_home x + (in_tables t.callback s.lines + timed t.callback s.clock.timers) ≡ one_banked x) bank (h.once t.callback) in
          let less : timed t.callback mid.clock.timers + 1 ≡ timed t.callback s.clock.timers + 0 = subst (λ (c : Bool). timed t.callback mid.clock.timers + cond c 1 0 ≡ timed t.callback s.clock.timers + 0) (same t.callback) (table t.callback) in
          cases o all less
        where
          cases : (o : Option Banked) → one_home o + (in_tables t.callback s.lines + timed t.callback s.clock.timers) ≡ one_banked o → timed t.callback mid.clock.timers + 1 ≡ timed t.callback s.clock.timers + 0 → (1 ≤ one_banked o) × (one_home o ≡ 0)
          cases None all less = absurd (omega (arith, all, less))
          cases (Some b) all less = (omega arith, omega (arith, all, less))

      by : (o : Option Banked) → slice_get s.bank t.callback ≡ o → IsPlaced (option_map_or (with_banked mid true t.callback) o mid)
      by None bank = absurd (omega (arith, (away None bank).0))
      by (Some b) bank = record {
        once = λ n.
            let was : ◌≡◌ {A = ℕ} (cond b.home 1 0) 0 = (away (Some b) bank).1 in
            let set = bank-set s.bank t.callback n b (record b { home = true }) bank in
            count n (t.callback == n) (rw was at set.0) set.1 (table n) (h.once n);
        size_is = length-set s.bank t.callback (record b { home = true }) ∙ h.size_is;
        sound = h.sound;
        clock_sound = sound-with_timer s.clock i None h.clock_sound;
      }
        where
          new : State
          new = with_banked mid true t.callback b

          count : (n : ℕ) (same : Bool)
              → one_home (slice_get new.bank n) + cond same 0 0 ≡ one_home (slice_get s.bank n) + cond same 1 0
              → one_banked (slice_get new.bank n) ≡ one_banked (slice_get s.bank n)
              → timed n new.clock.timers + cond same 1 0 ≡ timed n s.clock.timers + 0
              → places s n ≡ one_banked (slice_get s.bank n) → places new n ≡ one_banked (slice_get new.bank n)
          count n true home banked timers_are all = omega (arith, home, banked, timers_are, all)
          count n false home banked timers_are all = omega (arith, home, banked, timers_are, all)

  placed-sched : (s : State) (q : Sched) → IsPlaced s → IsPlaced (with_sched s q)
  placed-sched s q h = record { once = h.once; size_is = h.size_is; sound = h.sound; clock_sound = h.clock_sound }

  placed-dated : (s : State) (thread : ℕ) (until : Option ℕ) → IsPlaced s → IsPlaced (with_clock s (with_deadline s.clock thread until))
  placed-dated s thread until h = placed-clock s _ h (λ n. refl) (sound-with_deadline s.clock thread until h.clock_sound)

  kept_waiting : KeptByWakes IsPlaced
  kept_waiting = record {
    changed = λ s e h. record { once = h.once; size_is = h.size_is; sound = h.sound; clock_sound = h.clock_sound };
    waiting = λ s thread wait h. record { once = h.once; size_is = h.size_is; sound = h.sound; clock_sound = h.clock_sound };
    freed = λ s thread h. placed-dated s thread None h;
    queued = λ s ready h. placed-sched s _ h;
  }

  kept_placed : KeptByClock IsPlaced
  kept_placed = record {
    posted = λ s h. placed-lines s (lines.posted s.lines Oob 0) h (λ n. in-posted n s.lines Oob 0) (sound-posted s.lines Oob 0 h.sound (omega arith));
    charged = λ s before delta now h. placed-sched s _ h;
    advanced = λ s delta h. placed-clock s _ h (λ n. refl) (sound-advanced s.clock delta h.clock_sound);
    made = λ s n number tag b h here home allowed place_is. placed-made s n number tag b h here home place_is;
    started = λ s i date interval h. placed-clock s _ h (λ n. timed-changed n (λ t. timers.started t date interval) (λ t. refl) s.clock.timers i) (sound-start s.clock i date interval h.clock_sound);
    stopped = λ s i h. placed-clock s _ h (λ n. timed-changed n timers.stopped (λ t. refl) s.clock.timers i) (sound-stop s.clock i h.clock_sound);
    dropped = λ s i t h there. placed-dropped s i t h there;
  }

  placed-line : (s : State) (step : LineStep) → IsPlaced s → Leaves IsPlaced (line_effect s step)
  placed-line s (request line stage number tag) h = leaves-known IsPlaced (slice_get s.bank number) _ (λ b here.
      leaves-refused IsPlaced (lines.request_refusal s.lines line stage b.handler.kinds) _ (λ passed. leaves-passed (not b.home) Busy
      (done (with_banked (with_lines s (lines.requested s.lines line stage number tag)) false number b))
      (λ home. placed-requested s line stage number tag b h here (home_is b.home home) passed)))
  placed-line s (free line stage) h = leaves-refused IsPlaced (lines.free_refusal s.lines line stage) _ (λ passed. placed-freed s line stage h passed)
  placed-line s (arrive line) h = leaves-refused IsPlaced (lines.post_refusal line) _ (λ passed.
      placed-lines s (lines.arrived s.lines line) h (λ n. in-arrived n s.lines line) (sound-arrived s.lines line h.sound (below_limit line passed)))
  placed-line s (post stage line) h = placed-post s stage line h
  placed-line s (stall stage) h = placed-lines s (lines.stalled s.lines stage) h (λ n. in-same n s.lines stage _ refl) (sound-set_stalled s.lines stage true h.sound)
  placed-line s (unstall stage) h = placed-lines s (lines.unstalled s.lines stage) h (λ n. in-same n s.lines stage _ refl) (sound-set_stalled s.lines stage false h.sound)

  placed-task : (s : State) (caller : ℕ) (task : Task) → IsPlaced s → Leaves IsPlaced (performing s caller task).effect
  placed-task s caller (on_lines step) h = placed-line s step h
  placed-task s caller (on_clock step) h = leaves-clock IsPlaced kept_placed s step h
  placed-task s caller (on_threads step) h = leaves-threads IsPlaced placed-sched s caller step h
  placed-task s caller (on_element step) h = leaves-touched IsPlaced kept_waiting s (Some caller) step h
  placed-task s caller (on_staged step_from) h = leaves-touched IsPlaced kept_waiting s (Some caller) (step_from caller (stage_of s.sched caller)) h
  placed-task s caller (raises n) h = leaves-raising IsPlaced kept_waiting s caller n h
  placed-task s caller (begins wants until) h = leaves-beginning IsPlaced kept_waiting (timed-by IsPlaced kept_waiting kept_placed.posted placed-dated) s caller wants until h
  placed-task s caller (ends keep) h = leaves-finish IsPlaced kept_waiting s caller keep (λ x hx. placed-sched x _ hx) h

  placed-answer : (s : State) (caller : ℕ) (asked : Call) → IsPlaced s → Leaves IsPlaced (answer s caller asked)
  placed-answer s caller asked h = leaves-refused IsPlaced (general_refusal s caller asked) _ (λ passed. placed-task s caller (task_of asked) h)

  placed-acted : (s : State) (line : ℕ) (action : Action) → IsPlaced s → IsPlaced (after_action s line action)
  placed-acted s line (PostSem sem) h = leaves-if_done IsPlaced s _ h (leaves-touched IsPlaced kept_waiting s None (on_sem sem.0 put) h)
  placed-acted s line (PostFlags flags bits) h = leaves-if_done IsPlaced s _ h (leaves-touched IsPlaced kept_waiting s None (on_flags flags.0 (group.post bits)) h)
  placed-acted s line Propagate h = leaves-if_done IsPlaced s _ h (placed-post s Inband line h)
  placed-acted s line (PostOob other) h = leaves-if_done IsPlaced s _ h (placed-post s Oob other.0 h)
  placed-acted s line (StopTimer timer) h = leaves-if_done IsPlaced s _ h (leaves-stop IsPlaced kept_placed s timer.0 h)

  placed-all_acted : (s : State) (line : ℕ) (actions : List Action) → IsPlaced s → IsPlaced (all_acted s line actions)
  placed-all_acted s line [] h = h
  placed-all_acted s line (action ∷ actions) h = placed-all_acted (after_action s line action) line actions (placed-acted s line action h)

  placed-answered : (s : State) (line : ℕ) (answer : Answer) → IsPlaced s → IsPlaced (after_answer s line answer)
  placed-answered s line answer h = by answer.handled
    where
      by : (b : Bool) → IsPlaced (if b then all_acted s line answer.actions.items else s)
      by true = placed-all_acted s line answer.actions.items h
      by false = h

  -- a play
  placed-line_played : (s : State) (stage : Stage) (line : ℕ) (at : lines.Installed ℕ) → IsPlaced s → lines.installed_at s.lines stage line ≡ Some at → IsPlaced (line_played s stage line at).1
  placed-line_played s stage line at h there =
      placed-answered (with_lines s (lines.played s.lines stage line at (answer_given s at).handled)) line (answer_given s at)
      (placed-lines s (lines.played s.lines stage line at (answer_given s at).handled) h table (sound-played s.lines stage line at (answer_given s at).handled h.sound there))
    where
      below : (v : Stage) → lines.installed_at s.lines v line ≡ Some at → line < line_count
      below Oob here = omega (arith, within s.lines.oob.installed line at here, (h.sound.sides Oob).lines)
      below Inband here = omega (arith, within s.lines.inband.installed line at here, (h.sound.sides Inband).lines)

      table : (n : ℕ) → in_tables n (lines.played s.lines stage line at (answer_given s at).handled) ≡ in_tables n s.lines
      table n = omega (arith, in-set n s.lines stage (lines.played_on (lines.side s.lines stage) line at (answer_given s at).handled) line (Some at) (Some (record at { count = one_more at.count })) h.sound refl there (below stage there))

  placed-played : (s : State) (stage : Stage) (line : ℕ) → IsPlaced s → lines.is_pending s.lines stage line ≡ true → IsPlaced (pending_played s stage line).1
  placed-played s Inband line h pends = by (lines.installed_at s.lines Inband line) refl (h.sound.stands Inband line pends)
    where
      by : (o : Option (lines.Installed ℕ)) → lines.installed_at s.lines Inband line ≡ o → is_some o ≡ true → IsPlaced (line_played s Inband line (unwrap_or o nothing)).1
      by None there e = absurd (false≢true e)
      by (Some at) there e = placed-line_played s Inband line at h there
  placed-played s Oob line h pends = by (line == 0) (lines.installed_at s.lines Oob line) refl refl
    where
      zero_is : line ≡ 0 → (line == 0) ≡ true
      zero_is e = grind (arith, nat_tests)

      by : (b : Bool) (o : Option (lines.Installed ℕ)) → (line == 0) ≡ b → lines.installed_at s.lines Oob line ≡ o
          → IsPlaced (if b then clock_played s else line_played s Oob line (unwrap_or o nothing)).1
      by true o is there = placed-lines s _ h (λ n. refl) (sound-cleared s.lines Oob 0 h.sound)
      by false (Some at) is there = placed-line_played s Oob line at h there
      by false None is there = absurd (false≢true (sym is ∙ zero_is (clock-only s.lines Oob line (h.sound.stands Oob line pends) there).1))

  -- the play of a due item
  placed-item : (s : State) (found : Item) → IsPlaced s → next_due s.clock ≡ Some found → IsPlaced (item_played s found).1
  placed-item s found h due = leaves-item IsPlaced kept_placed
      (λ s i t h there. placed-clock s _ h (λ n. fired_same n s.clock i t there) (sound-with_timer s.clock i _ h.clock_sound))
      (kept-deadline IsPlaced kept_waiting) placed-answered s found h due

  next_placed : (at mid : Settling) (one : Play) → IsPlaced at.state → next_play at ≡ Some (one, mid) → IsPlaced mid.state
  next_placed at mid one h next = one_played (λ (x : Play × Settling). IsPlaced x.1.state) at mid one
      (λ found is. placed-item at.state found h (item_due at found is))
      (λ stage line none is. placed-played at.state stage line h (chosen_pends at.state.lines stage line (chosen at.state.lines (is_anyone_eligible at.state.sched) (nat_lt at.inband inband_limit) stage line is))) next

  along_placed : (at last : Settling) (plays : List Play) → IsPlaced at.state → Along next_play at plays last → IsPlaced last.state
  along_placed at last [] h path = subst (λ (x : Settling). IsPlaced x.state) (sym path) h
  along_placed at last (one ∷ plays) h (mid, next, path) = along_placed mid last plays (next_placed at mid one h next) path

  follows_placed : (old : State) (effect : Effect) (reply : Result Reply Refusal) (plays : List Play) (new : State) → IsPlaced old → Leaves IsPlaced effect → Follows old effect reply plays new → IsPlaced new
  follows_placed old (Err refusal) reply plays new h left p = subst IsPlaced (sym p.2) h
  follows_placed old (Ok (said, changed)) reply plays new h left (is, settles) = subst IsPlaced (sym settles.left) (along_placed (after_call changed) settles.last plays left settles.played)

  pub run_placed : (old : State) (entries : List Entry) (plays : List Play) (new : State) → IsPlaced old → Run old entries plays new → IsPlaced new
  run_placed old [] plays new h run = subst IsPlaced (sym run.1) h
  run_placed old (e ∷ entries) plays new h (own, rest, mid, split, (counted, step), run) =
      run_placed mid entries rest new (follows_placed old (answer old e.caller.0 e.call) e.reply own mid h (placed-answer old e.caller.0 e.call h) step) run

-- a new kernel
stood-none : (n k : ℕ) → stood n (replicate k None) ≡ 0
stood-none n zero = refl
stood-none n (suc k) = omega (arith, stood-none n k)

opened_home : (bank : List Handler) (n : ℕ) → one_home (slice_get (map at_home bank) n) ≡ one_banked (slice_get (map at_home bank) n)
opened_home [] n = refl
opened_home (x ∷ bank) zero = refl
opened_home (x ∷ bank) (suc n) = opened_home bank n

timed-none : (n k : ℕ) → timed n (replicate k None) ≡ 0
timed-none n zero = refl
timed-none n (suc k) = omega (arith, timed-none n k)

pub placed-opening : (board : Board) (bank : List Handler) → IsPlaced (length bank) (opening board bank)
unfolding lines.opening clocks.opening
placed-opening board bank = record {
  once = λ n. omega (arith, opened_home bank n, stood-none n line_count, timed-none n timer_count);
  size_is = length-map bank at_home;
  sound = sound-opening;
  clock_sound = sound_opening board.threads;
}
