-- Over sound handlers every call has a step: settling ends.
use Rattle.std.proofs.Common.{◌≡◌, ◌≢◌, ℕ, zero, suc, ◌+◌, ◌==◌, ◌<◌, ◌≤◌, nat_lt, ◌⊎◌, inl, inr, Bool, true, false, not, bit_and, List, [], ◌∷◌, length, map, Option, Some, None, Result, Ok, Err, is_some, unwrap_or, slice_get, slice_set, if◌then◌else◌, refl, sym, ap, ◌∙◌, subst, arith}
use Rattle.std.specs.Prelude.{All}
use Rattle.std.specs.Option.{option_map_or}
use Rattle.std.proofs.lemmas.Bool.{false≢true, eqb-true}
use Rattle.std.proofs.lemmas.Bool.Decides.{nat_tests}
use Rattle.std.proofs.lemmas.List.Elements.{All-head, All-tail, All-nil}
use Rattle.evl_base.specs.declared.board.Board.{Board}
use Rattle.evl_base.specs.declared.stage.Stage.{Stage}
use Rattle.evl_base.specs.declared.stage.Stage.TheVariants.{Inband, Oob}
use Rattle.evl_base.specs.declared.call.Call.{Call}
use Rattle.evl_base.specs.declared.entry.Entry.{Entry}
use Rattle.evl_base.specs.declared.play.Play.{Play}
use Rattle.evl_base.specs.declared.refusal.Refusal.{Refusal}
use Rattle.evl_base.specs.declared.refusal.Refusal.TheVariants.{Busy}
use Rattle.evl_base.specs.declared.reply.Reply.{Reply}
use Rattle.evl_pipeline.specs.declared.action.Action.{Action}
use Rattle.evl_pipeline.specs.declared.action.Action.TheVariants.{PostSem, PostFlags, Propagate, PostOob, StopTimer}
use Rattle.evl_pipeline.specs.declared.answer.Answer.{Answer}
use Rattle.evl_pipeline.specs.declared.plan.Plan.{Plan}
use Rattle.evl_pipeline.specs.Plans.{IsSound, allowed_kinds as allowed, is_allowed}
use Rattle.evl_pipeline.specs.Lines as lines
use Rattle.evl_pipeline.proofs.NumberSetLaws.{length-remove_least, length-rises}
use Rattle.evl_pipeline.proofs.PortLaws.{at-none, none_there}
use Rattle.evl_pipeline.proofs.AllowedLaws.{few, posts-no_oob, request-allowed}
use Rattle.evl_pipeline.proofs.LineLaws.{sound-opening, sound-set_stalled, sound-cleared, sound-filled, sound-played, sound-emptied, clock-only, request-not_clock}
use Rattle.evl_pipeline.specs.Limits.{line_count}
use Rattle.evl_base.specs.declared.numbers.TimerId.{TimerId}
use Rattle.std.proofs.lemmas.Nat.{and_assoc}
use Rattle.evl_clock.specs.declared.due.Item.{Item}
use Rattle.evl_clock.specs.declared.due.Item.TheVariants as item
use Rattle.evl_clock.specs.declared.timer.Timer.{Timer}
use Rattle.evl_clock.specs.Timers.{timer_kinds, is_timer_allowed}
use Rattle.evl_clock.specs.Clocks.{Clock, IsSoundClock, timer_at, with_deadline, with_new_timer, dropped}
use Rattle.evl_clock.specs.ClockSteps.{fired}
use Rattle.evl_clock.specs.Dues.{next_due}
use Rattle.evl_clock.proofs.DueLaws as due
use Rattle.evl_clock.proofs.DueLaws.{fewer-timer, fewer-deadline}
use Rattle.evl_kernel.specs.state.Limits.{inband_limit, play_limit}
use Rattle.evl_kernel.specs.settling.Paths.{Along}
use Rattle.evl_sched.specs.Threads.{Sched}
use Rattle.evl_sched.specs.Picks.{is_anyone_eligible}
use Rattle.evl_kernel.specs.state.States.{State, Handler, Banked, with_lines, with_clock, with_sched, with_banked, come_home, plan_at, no_plan}
use Rattle.evl_kernel.specs.calls.Effects.{Effect, done}
use Rattle.evl_kernel.specs.calls.Semaphores.{put}
use Rattle.evl_kernel.specs.calls.FlagGroups as group
use Rattle.evl_kernel.specs.calls.Elements.{on_sem, on_flags}
use Rattle.evl_kernel.specs.calls.LineCalls as line_call
use Rattle.evl_sched.specs.Threads.{stage_of}
use Rattle.evl_kernel.specs.calls.Families.{LineStep, request, free, arrive, post, stall, unstall, line_effect, Task, on_lines, on_clock, on_threads, on_element, on_staged, begins, ends, performing, task_of, raises}
use Rattle.evl_kernel.specs.calls.Serving.{serve_call, general_refusal, answer}
use Rattle.evl_kernel.specs.settling.Settling.{Settling, next_play, one_inband, after_action, all_acted, after_answer, answer_given as given, timer_given, timer_played, no_timer, item_played, pending_played, line_played, clock_played, after_call, nothing}
use Rattle.evl_kernel.specs.state.Openings.{opening, at_home}
use Rattle.evl_kernel.specs.state.Records.{kinds_at, AreAllowed, AreTimersAllowed}
use Rattle.evl_kernel.specs.histories.Histories.{Step, Run, Follows}
use Rattle.evl_kernel.specs.histories.Replays.{Outcome}
use Rattle.evl_kernel.specs.histories.Laws.{EveryCallSteps}
use Rattle.evl_kernel.proofs.waiting.StandingLaws.{OnlyOld, Stood, old-posted, old-arrived, old-stalled, old-unstalled, old-cleared, old-freed, old-played, new-requested}
use Rattle.evl_kernel.proofs.calls.LeavesLaws.{Leaves, leaves-refused, leaves-unless, leaves-known, leaves-if_done}
use Rattle.evl_kernel.proofs.calls.ClockSteps.{KeptByClock, leaves-clock, leaves-stop}
use Rattle.evl_kernel.proofs.calls.ThreadSteps.{leaves-threads}
use Rattle.evl_kernel.proofs.waiting.WaitSteps.{KeptByWakes, kept-deadline, leaves-touched, leaves-beginning, leaves-finish, timed-by, leaves-raising}
use Rattle.evl_kernel.proofs.histories.SilenceLaws.{below_limit, sound-posted, sound-arrived, free-not_clock}
use Rattle.evl_kernel.proofs.settling.PlayLaws.{oob_pending, answered-many, answered-none, answered-due, deadline-due, deadline-pending, next-least, next-allowed}
use Rattle.evl_kernel.proofs.histories.WorldLaws.{chosen, chosen_pends}
use Rattle.evl_kernel.specs.settling.Settled.{left_to_play}
use Rattle.evl_kernel.proofs.settling.DueLaws.{one_played, item_due, timer_found}
use Rattle.evl_kernel.proofs.state.TimerLaws.{StoodIn, OnlyOldTimers, old-start, old-stop, old-dropped, old-fired, old-advanced, old-with_deadline, new-timer, sound-with_timer, sound-with_deadline, sound-advanced, sound-start, sound-stop}
use Rattle.evl_kernel.proofs.state.OpeningLaws.{no_timer-opening, sound_opening}
use Rattle.evl_kernel.proofs.settling.Walking.{step_is_stepped}

-- each callback is sound, each on a line or in a timer is allowed there, and what is pending has a callback
record IsReady (s : State) : Type 0 where
  sane : (number : ℕ) → IsSound (kinds_at s number) (plan_at s number)
  allowed : AreAllowed s
  sound : lines.IsSoundPipeline s.lines
  timers_allowed : AreTimersAllowed s
  clock_sound : IsSoundClock s.clock

-- a callback that moves declares and answers the same
told-moved : {A : Type 0} (f : Handler → A) (d : A) (bank : List Banked) (number : ℕ) (home : Bool) (b : Banked) (other : ℕ) → slice_get bank number ≡ Some b
    → option_map_or (λ (x : Banked). f x.handler) (slice_get (slice_set bank number (record b { home = home })) other) d ≡ option_map_or (λ (x : Banked). f x.handler) (slice_get bank other) d
told-moved f d [] number home b other here = refl
told-moved f d (x ∷ xs) zero home b zero here = ap (λ (o : Option Banked). option_map_or (λ (y : Banked). f y.handler) o d) (sym here)
told-moved f d (x ∷ xs) zero home b (suc other) here = refl
told-moved f d (x ∷ xs) (suc number) home b zero here = refl
told-moved f d (x ∷ xs) (suc number) home b (suc other) here = told-moved f d xs number home b other here

ready-lines : (s : State) (q : lines.Pipeline ℕ) → IsReady s → OnlyOld s.lines q → lines.IsSoundPipeline q → IsReady (with_lines s q)
ready-lines s q h old sound = record {
  sane = h.sane;
  allowed = λ stage line at here.
      let was = old stage line at here in
      ap (λ (n : ℕ). is_allowed stage (kinds_at s n)) was.2 ∙ h.allowed stage line was.0 was.1;
  sound = sound;
  timers_allowed = h.timers_allowed;
  clock_sound = h.clock_sound;
}

ready-clock : (s : State) (c : Clock ℕ) → IsReady s → OnlyOldTimers s.clock c → IsSoundClock c → IsReady (with_clock s c)
ready-clock s c h old sound = record {
  sane = h.sane;
  allowed = h.allowed;
  sound = h.sound;
  timers_allowed = λ n at here.
      let was = old n at here in
      ap (λ (m : ℕ). is_timer_allowed (kinds_at s m)) was.2 ∙ h.timers_allowed n was.0 was.1;
  clock_sound = sound;
}

ready-sched : (s : State) (q : Sched) → IsReady s → IsReady (with_sched s q)
ready-sched s q h = record { sane = h.sane; allowed = h.allowed; sound = h.sound; timers_allowed = h.timers_allowed; clock_sound = h.clock_sound }

ready-dated : (s : State) (thread : ℕ) (until : Option ℕ) → IsReady s → IsReady (with_clock s (with_deadline s.clock thread until))
ready-dated s thread until h = ready-clock s _ h (old-with_deadline s.clock thread until) (sound-with_deadline s.clock thread until h.clock_sound)

ready_waiting : KeptByWakes IsReady
ready_waiting = record {
  changed = λ s e h. record { sane = h.sane; allowed = h.allowed; sound = h.sound; timers_allowed = h.timers_allowed; clock_sound = h.clock_sound };
  waiting = λ s thread wait h. record { sane = h.sane; allowed = h.allowed; sound = h.sound; timers_allowed = h.timers_allowed; clock_sound = h.clock_sound };
  freed = λ s thread h. ready-dated s thread None h;
  queued = λ s ready h. ready-sched s _ h;
}

ready-moved : (s : State) (number : ℕ) (home : Bool) (b : Banked) → IsReady s → slice_get s.bank number ≡ Some b → IsReady (with_banked s home number b)
ready-moved s number home b h here =
    let kinds = λ (n : ℕ). told-moved (λ (x : Handler). x.kinds) 0 s.bank number home b n here in
    let plans = λ (n : ℕ). told-moved (λ (x : Handler). x.plan) no_plan s.bank number home b n here in
    record {
      sane = λ n. subst (λ (k : ℕ). IsSound k (plan_at (with_banked s home number b) n)) (sym (kinds n)) (subst (λ (p : Plan). IsSound (kinds_at s n) p) (sym (plans n)) (h.sane n));
      allowed = λ stage line at there. ap (is_allowed stage) (kinds at.callback) ∙ h.allowed stage line at there;
      sound = h.sound;
      timers_allowed = λ n at there. ap is_timer_allowed (kinds at.callback) ∙ h.timers_allowed n at there;
      clock_sound = h.clock_sound;
    }

ready-requested : (s : State) (line : ℕ) (stage : Stage) (number tag : ℕ) → IsReady s → is_allowed stage (kinds_at s number) ≡ true → line ≢ 0
    → IsReady (with_lines s (lines.requested s.lines line stage number tag))
ready-requested s line stage number tag h allows other = record {
  sane = h.sane;
  allowed = λ v place at here. by v place at (new-requested s.lines line stage number tag v place at here);
  sound = sound-filled s.lines stage line number tag h.sound other;
  timers_allowed = h.timers_allowed;
  clock_sound = h.clock_sound;
}
  where
    by : (v : Stage) (place : ℕ) (at : lines.Installed ℕ) → Stood s.lines v place at ⊎ ((v ≡ stage) × (at.callback ≡ number)) → is_allowed v (kinds_at s at.callback) ≡ true
    by v place at (inl was) = ap (λ (n : ℕ). is_allowed v (kinds_at s n)) was.2 ∙ h.allowed v place was.0 was.1
    by v place at (inr new) = (λ i. is_allowed (new.0 i) (kinds_at s (new.1 i))) ∙ allows

ready-home : (s : State) (number : ℕ) → IsReady s → IsReady (come_home s number)
ready-home s number h = by (slice_get s.bank number) refl
  where
    by : (o : Option Banked) → slice_get s.bank number ≡ o → IsReady (option_map_or (with_banked s true number) o s)
    by None here = h
    by (Some b) here = ready-moved s number true b h here

-- a timer that was made holds what is allowed there
ready-made : (s : State) (n number tag : ℕ) → IsReady s → is_timer_allowed (kinds_at s number) ≡ true → IsReady (with_clock s (with_new_timer s.clock n number tag))
ready-made s n number tag h allows = record {
  sane = h.sane;
  allowed = h.allowed;
  sound = h.sound;
  timers_allowed = λ m at here. by m at (new-timer s.clock n number tag m at here);
  clock_sound = sound-with_timer s.clock n _ h.clock_sound;
}
  where
    by : (m : ℕ) (at : Timer ℕ) → StoodIn s.clock m at ⊎ (at.callback ≡ number) → is_timer_allowed (kinds_at s at.callback) ≡ true
    by m at (inl was) = ap (λ (k : ℕ). is_timer_allowed (kinds_at s k)) was.2 ∙ h.timers_allowed m was.0 was.1
    by m at (inr new) = ap (λ (k : ℕ). is_timer_allowed (kinds_at s k)) new ∙ allows

kept_ready : KeptByClock IsReady
kept_ready = record {
  posted = λ s h. ready-lines s (lines.posted s.lines Oob 0) h (old-posted s.lines Oob 0) (sound-posted s.lines Oob 0 h.sound (omega arith));
  charged = λ s before delta now h. ready-sched s _ h;
  advanced = λ s delta h. ready-clock s _ h (old-advanced s.clock delta) (sound-advanced s.clock delta h.clock_sound);
  made = λ s n number tag b h here home allows free. ready-moved (with_clock s (with_new_timer s.clock n number tag)) number false b
      (ready-made s n number tag h (ap (λ (o : Option Banked). is_timer_allowed (option_map_or (λ (x : Banked). x.handler.kinds) o 0)) here ∙ allows)) here;
  started = λ s n date interval h. ready-clock s _ h (old-start s.clock n date interval) (sound-start s.clock n date interval h.clock_sound);
  stopped = λ s n h. ready-clock s _ h (old-stop s.clock n) (sound-stop s.clock n h.clock_sound);
  dropped = λ s n t h there. ready-home (with_clock s (dropped s.clock n)) t.callback (ready-clock s (dropped s.clock n) h (old-dropped s.clock n) (sound-with_timer s.clock n None h.clock_sound));
}

ready-returned : (s : State) (o : Option (lines.Installed ℕ)) → IsReady s → IsReady (line_call.with_callback_back s o)
ready-returned s None h = h
ready-returned s (Some at) h = ready-home s at.callback h

ready-post : (s : State) (stage : Stage) (line : ℕ) → IsReady s → Leaves IsReady (line_call.post s stage line)
ready-post s stage line h = leaves-refused IsReady (lines.post_refusal line) _ (λ none.
    ready-lines s (lines.posted s.lines stage line) h (old-posted s.lines stage line) (sound-posted s.lines stage line h.sound (below_limit line none)))

ready-line : (s : State) (step : LineStep) → IsReady s → Leaves IsReady (line_effect s step)
ready-line s (request line stage number tag) h = leaves-known IsReady (slice_get s.bank number) _ (λ b here.
    leaves-refused IsReady (lines.request_refusal s.lines line stage b.handler.kinds) _ (λ passed. leaves-unless IsReady (not b.home) Busy
    (done (with_banked (with_lines s (lines.requested s.lines line stage number tag)) false number b))
    (ready-moved (with_lines s (lines.requested s.lines line stage number tag)) number false b
    (ready-requested s line stage number tag h
    (ap (λ (o : Option Banked). is_allowed stage (option_map_or (λ (x : Banked). x.handler.kinds) o 0)) here ∙ request-allowed s.lines line stage b.handler.kinds passed)
    (request-not_clock s.lines line stage b.handler.kinds passed)) here)))
ready-line s (free line stage) h = leaves-refused IsReady (lines.free_refusal s.lines line stage) _ (λ passed.
    ready-returned (with_lines s (lines.freed s.lines line stage)) (lines.installed_at s.lines stage line)
    (ready-lines s (lines.freed s.lines line stage) h (old-freed s.lines line stage) (sound-emptied s.lines stage line h.sound (free-not_clock s.lines line stage passed))))
ready-line s (arrive line) h = leaves-refused IsReady (lines.post_refusal line) _ (λ passed.
    ready-lines s (lines.arrived s.lines line) h (old-arrived s.lines line) (sound-arrived s.lines line h.sound (below_limit line passed)))
ready-line s (post stage line) h = ready-post s stage line h
ready-line s (stall stage) h = ready-lines s (lines.stalled s.lines stage) h (old-stalled s.lines stage) (sound-set_stalled s.lines stage true h.sound)
ready-line s (unstall stage) h = ready-lines s (lines.unstalled s.lines stage) h (old-unstalled s.lines stage) (sound-set_stalled s.lines stage false h.sound)

ready-task : (s : State) (caller : ℕ) (task : Task) → IsReady s → Leaves IsReady (performing s caller task).effect
ready-task s caller (on_lines step) h = ready-line s step h
ready-task s caller (on_clock step) h = leaves-clock IsReady kept_ready s step h
ready-task s caller (on_threads step) h = leaves-threads IsReady ready-sched s caller step h
ready-task s caller (on_element step) h = leaves-touched IsReady ready_waiting s (Some caller) step h
ready-task s caller (on_staged step_from) h = leaves-touched IsReady ready_waiting s (Some caller) (step_from caller (stage_of s.sched caller)) h
ready-task s caller (raises n) h = leaves-raising IsReady ready_waiting s caller n h
ready-task s caller (begins wants until) h = leaves-beginning IsReady ready_waiting (timed-by IsReady ready_waiting kept_ready.posted ready-dated) s caller wants until h
ready-task s caller (ends keep) h = leaves-finish IsReady ready_waiting s caller keep (λ x hx. ready-sched x _ hx) h

ready-answer : (s : State) (caller : ℕ) (asked : Call) → IsReady s → Leaves IsReady (answer s caller asked)
ready-answer s caller asked h = leaves-refused IsReady (general_refusal s caller asked) (serve_call s caller asked) (λ passed. ready-task s caller (task_of asked) h)

ready-acted : (s : State) (line : ℕ) (action : Action) → IsReady s → IsReady (after_action s line action)
ready-acted s line (PostSem sem) h = leaves-if_done IsReady s _ h (leaves-touched IsReady ready_waiting s None (on_sem sem.0 put) h)
ready-acted s line (PostFlags flags bits) h = leaves-if_done IsReady s _ h (leaves-touched IsReady ready_waiting s None (on_flags flags.0 (group.post bits)) h)
ready-acted s line Propagate h = leaves-if_done IsReady s _ h (ready-post s Inband line h)
ready-acted s line (PostOob other) h = leaves-if_done IsReady s _ h (ready-post s Oob other.0 h)
ready-acted s line (StopTimer timer) h = leaves-if_done IsReady s _ h (leaves-stop IsReady kept_ready s timer.0 h)

ready-all_acted : (s : State) (line : ℕ) (actions : List Action) → IsReady s → IsReady (all_acted s line actions)
ready-all_acted s line [] h = h
ready-all_acted s line (action ∷ actions) h = ready-all_acted (after_action s line action) line actions (ready-acted s line action h)

ready-answered : (s : State) (line : ℕ) (answer : Answer) → IsReady s → IsReady (after_answer s line answer)
ready-answered s line answer h = by answer.handled
  where
    by : (b : Bool) → IsReady (if b then all_acted s line answer.actions.items else s)
    by true = ready-all_acted s line answer.actions.items h
    by false = h

-- how many plays are left at most
abbrev left_at : State → ℕ → ℕ
left_at s inband = left_to_play (record { state = s; inband = inband; in_clock = false })

-- after a play of this stage it is still ready, and fewer are left
record Nearer (s : State) (inband : ℕ) (stage : Stage) (t : State) : Type 0 where
  ready : IsReady t
  within : inband + one_inband stage ≤ inband_limit
  fewer : left_at t (inband + one_inband stage) < left_at s inband

below_64 : (inband : ℕ) → nat_lt inband inband_limit ≡ true → inband < inband_limit
below_64 inband e = grind (arith, nat_tests)

line_nearer : (s : State) (inband : ℕ) (stage : Stage) (line : ℕ) (at : lines.Installed ℕ) → IsReady s → inband ≤ inband_limit
    → lines.next_line s.lines (is_anyone_eligible s.sched) (nat_lt inband inband_limit) ≡ Some (stage, line) → lines.installed_at s.lines stage line ≡ Some at → Nearer s inband stage (line_played s stage line at).1
line_nearer s inband stage line at h within next there = by stage refl
  where
    after : State
    after = with_lines s (lines.played s.lines stage line at (given s at).handled)

    kept : IsReady (after_answer after line (given s at))
    kept = ready-answered after line (given s at)
        (ready-lines s (lines.played s.lines stage line at (given s at).handled) h (old-played s.lines stage line at (given s at).handled there) (sound-played s.lines stage line at (given s at).handled h.sound there))

    by : (v : Stage) → stage ≡ v → Nearer s inband stage (after_answer after line (given s at))
    by Oob is =
        let none = answered-none after line (given s at) (posts-no_oob (kinds_at s at.callback) (plan_at s at.callback) _ (h.sane at.callback)
        (ap (λ (v : Stage). is_allowed v (kinds_at s at.callback)) (sym is) ∙ h.allowed stage line at there)) in
        let less = length-remove_least s.lines.oob.pending line (next-least s.lines (is_anyone_eligible s.sched) (nat_lt inband inband_limit) line (subst (λ (v : Stage). lines.next_line s.lines (is_anyone_eligible s.sched) (nat_lt inband inband_limit) ≡ Some (v, line)) is next)) in
        let pends : oob_pending after ≡ length (Rattle.evl_pipeline.specs.NumberSet.remove s.lines.oob.pending line) =
        ap (λ (v : Stage). oob_pending (with_lines s (lines.played s.lines v line at (given s at).handled))) is in
        let one : one_inband stage ≡ 0 = ap one_inband is in
        record { ready = kept; within = omega (arith, within, one); fewer = omega (arith, none, less, pends, one, answered-due after line (given s at)) }
    by Inband is =
        let many = answered-many after line (given s at) in
        let bound = few (kinds_at s at.callback) (plan_at s at.callback) (Rattle.evl_pipeline.specs.Counts.one_more at.count) (h.sane at.callback) in
        let below = below_64 inband (next-allowed s.lines (is_anyone_eligible s.sched) (nat_lt inband inband_limit) line (subst (λ (v : Stage). lines.next_line s.lines (is_anyone_eligible s.sched) (nat_lt inband inband_limit) ≡ Some (v, line)) is next)) in
        let pends : oob_pending after ≡ oob_pending s =
        ap (λ (v : Stage). oob_pending (with_lines s (lines.played s.lines v line at (given s at).handled))) is in
        let one : one_inband stage ≡ 1 = ap one_inband is in
        record { ready = kept; within = omega (arith, below, one); fewer = omega (arith, many, bound, below, pends, one, answered-due after line (given s at)) }

clock_nearer : (s : State) (inband line : ℕ) → IsReady s → inband ≤ inband_limit → line ≡ 0 → lines.next_line s.lines (is_anyone_eligible s.sched) (nat_lt inband inband_limit) ≡ Some (Oob, line) → Nearer s inband Oob (clock_played s).1
clock_nearer s inband line h within zero_is next =
    let less = length-remove_least s.lines.oob.pending 0 (next-least s.lines (is_anyone_eligible s.sched) (nat_lt inband inband_limit) 0 (subst (λ (n : ℕ). lines.next_line s.lines (is_anyone_eligible s.sched) (nat_lt inband inband_limit) ≡ Some (Oob, n)) zero_is next)) in
    record {
      ready = ready-lines s _ h (old-cleared s.lines Oob 0) (sound-cleared s.lines Oob 0 h.sound);
      within = omega (arith, within);
      fewer = omega (arith, less);
    }

played_nearer : (s : State) (inband : ℕ) (stage : Stage) (line : ℕ) → IsReady s → inband ≤ inband_limit → lines.next_line s.lines (is_anyone_eligible s.sched) (nat_lt inband inband_limit) ≡ Some (stage, line)
    → Nearer s inband stage (pending_played s stage line).1
played_nearer s inband Inband line h within next = by (lines.installed_at s.lines Inband line) refl (h.sound.stands Inband line (chosen_pends s.lines Inband line (chosen s.lines (is_anyone_eligible s.sched) (nat_lt inband inband_limit) Inband line next)))
  where
    by : (o : Option (lines.Installed ℕ)) → lines.installed_at s.lines Inband line ≡ o → is_some o ≡ true → Nearer s inband Inband (line_played s Inband line (unwrap_or o nothing)).1
    by None there e = absurd (false≢true e)
    by (Some at) there e = line_nearer s inband Inband line at h within next there
played_nearer s inband Oob line h within next = by (line == 0) (lines.installed_at s.lines Oob line) refl refl
  where
    number : (line == 0) ≡ true → line ≡ 0
    number e = grind (arith, nat_tests)

    grind_zero : line ≡ 0 → (line == 0) ≡ true
    grind_zero e = grind (arith, nat_tests)

    by : (b : Bool) (o : Option (lines.Installed ℕ)) → (line == 0) ≡ b → lines.installed_at s.lines Oob line ≡ o
        → Nearer s inband Oob (if b then clock_played s else line_played s Oob line (unwrap_or o nothing)).1
    by true o is there = clock_nearer s inband line h within (number is) next
    by false (Some at) is there = line_nearer s inband Oob line at h within next there
    by false None is there = absurd (false≢true (sym is ∙ grind_zero (clock-only s.lines Oob line (h.sound.stands Oob line (chosen_pends s.lines Oob line (chosen s.lines (is_anyone_eligible s.sched) (nat_lt inband inband_limit) Oob line next))) there).1))

-- what is allowed for timers is allowed out-of-band
allowed_oob : (kinds : ℕ) → is_timer_allowed kinds ≡ true → is_allowed Oob kinds ≡ true
allowed_oob kinds e =
    let within : bit_and timer_kinds kinds ≡ kinds = eqb-true (bit_and timer_kinds kinds) kinds e in
    let same : bit_and (allowed Oob) kinds ≡ kinds = ap (bit_and (allowed Oob)) (sym within) ∙ sym (and_assoc kinds (allowed Oob) timer_kinds) ∙ within in
    same_is (bit_and (allowed Oob) kinds) kinds same
  where
    same_is : (n m : ℕ) → n ≡ m → (n == m) ≡ true
    same_is n m e = grind (arith, nat_tests)

timer_nearer : (s : State) (inband : ℕ) (id : TimerId) (t : Timer ℕ) → IsReady s → inband ≤ inband_limit → next_due s.clock ≡ Some (item.Timer id) → timer_at s.clock id.0 ≡ Some t → Nearer s inband Oob (timer_played s id.0 t).1
timer_nearer s inband id t h within due there =
    let after = with_clock s (fired s.clock id.0 t) in
    let given = timer_given s t in
    record {
      ready = ready-answered after 0 given (ready-clock s (fired s.clock id.0 t) h (old-fired s.clock id.0 t there) (sound-with_timer s.clock id.0 _ h.clock_sound));
      within = omega (arith, within);
      fewer = omega (
        arith,
        fewer-timer s.clock id.0 t due there,
        answered-due after 0 given,
        answered-none after 0 given (posts-no_oob (kinds_at s t.callback) (plan_at s t.callback) _ (h.sane t.callback) (allowed_oob (kinds_at s t.callback) (h.timers_allowed id.0 t there))),
      );
    }

item_nearer : (s : State) (inband : ℕ) (found : Item) → IsReady s → inband ≤ inband_limit → next_due s.clock ≡ Some found → Nearer s inband Oob (item_played s found).1
item_nearer s inband (item.Deadline thread) h within due = record {
  ready = kept-deadline IsReady ready_waiting s thread.0 h;
  within = omega (arith, within);
  fewer = omega (arith, fewer-deadline s.clock thread.0 due, deadline-pending s thread.0, deadline-due s thread.0);
}
item_nearer s inband (item.Timer id) h within due =
    let found = timer_found s.clock id due in
    subst (λ (o : Option (Timer ℕ)). Nearer s inband Oob (timer_played s id.0 (unwrap_or o no_timer)).1) (sym found.1) (timer_nearer s inband id found.0 h within due found.1)

-- one play on
record Goes (at mid : Settling) : Type 0 where
  ready : IsReady mid.state
  within : mid.inband ≤ inband_limit
  fewer : left_at mid.state mid.inband < left_at at.state at.inband

goes : (at mid : Settling) (one : Play) → IsReady at.state → at.inband ≤ inband_limit → next_play at ≡ Some (one, mid) → Goes at mid
goes at mid one h within next = one_played (λ (x : Play × Settling). Goes at x.1) at mid one
    (λ found is. let near = item_nearer at.state at.inband found h within (item_due at found is) in record { ready = near.ready; within = near.within; fewer = near.fewer })
    (λ stage line none is. let near = played_nearer at.state at.inband stage line h within is in record { ready = near.ready; within = near.within; fewer = near.fewer }) next

-- settling ends
record Ends (at : Settling) (most : ℕ) : Type 0 where
  plays : List Play
  last : Settling
  path : Along next_play at plays last
  over : next_play last ≡ None
  few_plays : length plays ≤ most

it_ends : (most : ℕ) (at : Settling) → IsReady at.state → at.inband ≤ inband_limit → left_at at.state at.inband ≤ most → Ends at most
it_ends zero at h within less = by (next_play at) refl
  where
    by : (o : Option (Play × Settling)) → next_play at ≡ o → Ends at zero
    by None none = record { plays = []; last = at; path = refl; over = none; few_plays = omega arith }
    by (Some (one, mid)) next = let on = goes at mid one h within next in absurd (omega (arith, on.fewer, less))
it_ends (suc most) at h within less = by (next_play at) refl (λ mid on. it_ends most mid on.ready on.within (omega (arith, on.fewer, less)))
  where
    by : (o : Option (Play × Settling)) → next_play at ≡ o → ((mid : Settling) → Goes at mid → Ends mid most) → Ends at (suc most)
    by None none others = record { plays = []; last = at; path = refl; over = none; few_plays = omega arith }
    by (Some (one, mid)) next others =
        let rest = others mid (goes at mid one h within next) in
        record { plays = one ∷ rest.plays; last = rest.last; path = (mid, next, rest.path); over = rest.over; few_plays = omega (arith, rest.few_plays) }

-- each state of a history is ready
along_ready : (at last : Settling) (plays : List Play) → IsReady at.state → at.inband ≤ inband_limit → Along next_play at plays last → IsReady last.state
along_ready at last [] h within path = subst (λ (x : Settling). IsReady x.state) (sym path) h
along_ready at last (one ∷ plays) h within (mid, next, path) =
    let on = goes at mid one h within next in along_ready mid last plays on.ready on.within path

follows_ready : (old : State) (effect : Effect) (reply : Result Reply Refusal) (plays : List Play) (new : State) → IsReady old → Leaves IsReady effect → Follows old effect reply plays new → IsReady new
follows_ready old (Err refusal) reply plays new h left p = subst IsReady (sym p.2) h
follows_ready old (Ok (said, changed)) reply plays new h left (is, settles) =
    subst IsReady (sym settles.left) (along_ready (after_call changed) settles.last plays left (omega arith) settles.played)

run_ready : (old : State) (entries : List Entry) (plays : List Play) (new : State) → IsReady old → Run old entries plays new → IsReady new
run_ready old [] plays new h run = subst IsReady (sym run.1) h
run_ready old (e ∷ entries) plays new h (own, rest, mid, split, (counted, step), run) =
    run_ready mid entries rest new (follows_ready old (answer old e.caller.0 e.call) e.reply own mid h (ready-answer old e.caller.0 e.call h) step) run

no_sound : IsSound 0 no_plan
no_sound = record { few = omega arith; accepts = omega arith; periods = All-nil _; declared = All-nil _ }

sane_at : (bank : List Handler) (n : ℕ) → All (λ handler. IsSound handler.kinds handler.plan) bank
    → IsSound (option_map_or (λ (b : Banked). b.handler.kinds) (slice_get (map at_home bank) n) 0) (option_map_or (λ (b : Banked). b.handler.plan) (slice_get (map at_home bank) n) no_plan)
sane_at [] zero all = no_sound
sane_at [] (suc n) all = no_sound
sane_at (x ∷ bank) zero all = All-head (λ handler. IsSound handler.kinds handler.plan) x bank all
sane_at (x ∷ bank) (suc n) all = sane_at bank n (All-tail (λ handler. IsSound handler.kinds handler.plan) x bank all)

ready_opening : (board : Board) (bank : List Handler) → All (λ handler. IsSound handler.kinds handler.plan) bank → IsReady (opening board bank)
unfolding lines.opening
ready_opening board bank all = record {
  sane = λ n. sane_at bank n all;
  allowed = λ stage line at here. absurd (nothing_there stage line at here);
  sound = sound-opening;
  timers_allowed = λ n at here. absurd (no_timer-opening board.threads n at here);
  clock_sound = sound_opening board.threads;
}
  where
    nothing_there : (stage : Stage) (line : ℕ) (at : lines.Installed ℕ) → lines.installed_at (opening board bank).lines stage line ≡ Some at → ⊥
    nothing_there Oob line at here = none_there None at refl (sym (at-none line_count line) ∙ here)
    nothing_there Inband line at here = none_there None at refl (sym (at-none line_count line) ∙ here)

-- a step, whatever the effect
record HasStep (old : State) (effect : Effect) : Type 0 where
  reply : Result Reply Refusal
  plays : List Play
  new : State
  step : Follows old effect reply plays new
  few_plays : length plays ≤ play_limit

has_step : (old : State) (effect : Effect) → Leaves IsReady effect → HasStep old effect
has_step old (Err refusal) left = record { reply = Err refusal; plays = []; new = old; step = (refl, refl, refl); few_plays = omega arith }
has_step old (Ok (said, changed)) left =
    let sides = left.sound.sides Oob in
    let end = it_ends play_limit (after_call changed) left (omega arith) (omega (arith, length-rises 0 line_count changed.lines.oob.pending sides.rises, due.few changed.clock left.clock_sound)) in
    record {
      reply = Ok said;
      plays = end.plays;
      new = end.last.state;
      step = (refl, record { last = end.last; played = end.path; ended = end.over; left = refl });
      few_plays = end.few_plays;
    }

pub every_step : EveryCallSteps
every_step h handlers legal caller asked =
    let ready = run_ready (opening h.board h.bank) h.entries h.plays h.state (ready_opening h.board h.bank handlers) legal in
    let some = has_step h.state (answer h.state caller asked) (ready-answer h.state caller asked ready) in
    let is = step_is_stepped h.state caller asked some.reply some.plays some.new some.step some.few_plays in
    subst (λ (o : Outcome). Step h.state caller asked o.reply o.plays o.after × (length o.plays ≤ play_limit)) (sym is) (some.step, some.few_plays)
