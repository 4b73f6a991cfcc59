-- No in-band callback has actions where no callback that is requested in-band has, and what is pending has a
-- callback: each call and each play keeps that.
use Rattle.std.proofs.Common.{◌≡◌, ◌≢◌, ℕ, zero, suc, ◌==◌, ◌<◌, nat_lt, ◌⊎◌, inl, inr, Bool, true, false, not, List, [], ◌∷◌, Option, Some, None, is_some, unwrap_or, slice_get, slice_set, if◌then◌else◌, refl, sym, ap, ◌∙◌, subst, arith}
use Rattle.std.specs.Option.{option_map_or}
use Rattle.std.proofs.lemmas.Bool.{false≢true}
use Rattle.std.proofs.lemmas.Bool.Decides.{nat_tests}
use Rattle.evl_base.specs.declared.stage.Stage.{Stage}
use Rattle.evl_base.specs.declared.stage.Stage.TheVariants.{Inband, Oob}
use Rattle.evl_base.specs.declared.call.Call.{Call}
use Rattle.evl_base.specs.declared.refusal.Refusal.TheVariants.{Busy, Invalid, Unknown}
use Rattle.evl_base.specs.declared.board.Board.{Board}
use Rattle.evl_pipeline.specs.declared.action.Action.{Action}
use Rattle.evl_pipeline.specs.declared.action.Action.TheVariants.{PostSem, PostFlags, Propagate, PostOob, StopTimer}
use Rattle.evl_pipeline.specs.declared.answer.Answer.{Answer}
use Rattle.evl_pipeline.specs.Counts.{count_raised, one_more}
use Rattle.evl_pipeline.specs.Plans.{answer_of}
use Rattle.evl_pipeline.specs.Lines as lines
use Rattle.evl_pipeline.proofs.PortLaws.{at-none, none_there}
use Rattle.evl_pipeline.proofs.LineLaws.{sound-opening, sound-set_stalled, sound-spurious, sound-logged, sound-cleared, sound-filled, sound-played, sound-emptied, clock-only, request-not_clock}
use Rattle.evl_pipeline.specs.Limits.{line_count}
use Rattle.evl_sched.specs.Threads.{Sched}
use Rattle.evl_kernel.specs.state.States.{State, Handler, Banked, with_lines, with_clock, with_sched, with_banked, come_home, plan_at, no_plan}
use Rattle.evl_kernel.specs.calls.Effects.{done}
use Rattle.evl_kernel.specs.calls.Semaphores.{put}
use Rattle.evl_kernel.specs.calls.FlagGroups as group
use Rattle.evl_kernel.specs.calls.Elements.{on_sem, on_flags}
use Rattle.evl_kernel.specs.calls.LineCalls as line_call
use Rattle.evl_sched.specs.Threads.{stage_of}
use Rattle.evl_kernel.specs.calls.Families.{LineStep, request, free, arrive, post, stall, unstall, line_effect, Task, on_lines, on_clock, on_threads, on_element, on_staged, begins, ends, performing, task_of, raises}
use Rattle.evl_kernel.specs.calls.Serving.{serve_call, general_refusal, answer}
use Rattle.evl_kernel.specs.settling.Settling.{after_action, all_acted, after_answer, item_played, pending_played, line_played, clock_played, nothing}
use Rattle.evl_kernel.specs.state.Openings.{opening}
use Rattle.evl_clock.specs.declared.due.Item.{Item}
use Rattle.evl_clock.specs.Dues.{next_due}
use Rattle.evl_clock.specs.Clocks.{Clock}
use Rattle.evl_kernel.proofs.calls.LeavesLaws.{Leaves, leaves-refused, leaves-unless, leaves-known, leaves-if_done}
use Rattle.evl_kernel.proofs.calls.ClockSteps.{KeptByClock, leaves-clock, leaves-stop, leaves-item}
use Rattle.evl_kernel.proofs.calls.ThreadSteps.{leaves-threads}
use Rattle.evl_kernel.proofs.waiting.WaitSteps.{KeptByWakes, kept-deadline, leaves-touched, leaves-beginning, leaves-finish, timed-by, leaves-raising}
use Rattle.evl_kernel.proofs.waiting.StandingLaws.{OnlyOld, Stood, old-posted, old-arrived, old-stalled, old-unstalled, old-cleared, old-freed, old-played, new-requested}

-- the plans are those at the beginning, no callback that is in-band has actions, and what is pending has a callback
pub record IsSilent (start s : State) : Type 0 where
  pub plans : (number : ℕ) → plan_at s number ≡ plan_at start number
  pub silent : (line : ℕ) (at : lines.Installed ℕ) → lines.installed_at s.lines Inband line ≡ Some at → (plan_at start at.callback).rows.items ≡ []
  pub sound : lines.IsSoundPipeline s.lines

-- whatever callback it asks for in-band has no actions
abbrev pub AsksNoActions : State → Task → Type 0
AsksNoActions start task = (line number tag : ℕ) → task ≡ on_lines (request line Inband number tag) → (plan_at start number).rows.items ≡ []

pub below_limit : (line : ℕ) → lines.post_refusal line ≡ None → line < line_count
below_limit line e = by (nat_lt line line_count) refl e
  where
    by : (b : Bool) → nat_lt line line_count ≡ b → (if b then None else Some Unknown) ≡ None → line < line_count
    by true is none = grind (arith, nat_tests)
    by false is none = absurd (none_there None Unknown refl (sym none))

pub sound-posted : (p : lines.Pipeline ℕ) (stage : Stage) (line : ℕ) → lines.IsSoundPipeline p → line < line_count → lines.IsSoundPipeline (lines.posted p stage line)
sound-posted p stage line h below = by (lines.has_callback p stage line) refl
  where
    by : (b : Bool) → lines.has_callback p stage line ≡ b
        → lines.IsSoundPipeline (if b then lines.with_side p stage (lines.logged (lines.side p stage) line) else record p { spurious = count_raised p.spurious line })
    by true there = sound-logged p stage line h below there
    by false there = sound-spurious p line h

pub sound-arrived : (p : lines.Pipeline ℕ) (line : ℕ) → lines.IsSoundPipeline p → line < line_count → lines.IsSoundPipeline (lines.arrived p line)
sound-arrived p line h below = by (lines.has_callback p Oob line)
  where
    by : (b : Bool) → lines.IsSoundPipeline (if b then lines.posted p Oob line else lines.posted p Inband line)
    by true = sound-posted p Oob line h below
    by false = sound-posted p Inband line h below

pub free-not_clock : (p : lines.Pipeline ℕ) (line : ℕ) (stage : Stage) → lines.free_refusal p line stage ≡ None → line ≢ 0
free-not_clock p line stage none is = none_there None Invalid refl (sym none ∙ ap (λ (l : ℕ). lines.free_refusal p l stage) is)

-- a callback that moves keeps its plan
plan-moved : (bank : List Banked) (number : ℕ) (home : Bool) (b : Banked) (other : ℕ) → slice_get bank number ≡ Some b
    → option_map_or (λ (x : Banked). x.handler.plan) (slice_get (slice_set bank number (record b { home = home })) other) no_plan ≡ option_map_or (λ (x : Banked). x.handler.plan) (slice_get bank other) no_plan
plan-moved [] number home b other here = refl
plan-moved (x ∷ xs) zero home b zero here = ap (λ (o : Option Banked). option_map_or (λ (y : Banked). y.handler.plan) o no_plan) (sym here)
plan-moved (x ∷ xs) zero home b (suc other) here = refl
plan-moved (x ∷ xs) (suc number) home b zero here = refl
plan-moved (x ∷ xs) (suc number) home b (suc other) here = plan-moved xs number home b other here

module _ (start : State) where
  -- other lines with nothing new on them
  silent-lines : (s : State) (q : lines.Pipeline ℕ) → IsSilent start s → OnlyOld s.lines q → lines.IsSoundPipeline q → IsSilent start (with_lines s q)
  silent-lines s q h old sound = record {
    plans = h.plans;
    silent = λ line at here.
        let was = old Inband line at here in
        ap (λ (n : ℕ). (plan_at start n).rows.items) was.2 ∙ h.silent line was.0 was.1;
    sound = sound;
  }

  silent-moved : (s : State) (number : ℕ) (home : Bool) (b : Banked) → IsSilent start s → slice_get s.bank number ≡ Some b → IsSilent start (with_banked s home number b)
  silent-moved s number home b h here = record { plans = λ other. plan-moved s.bank number home b other here ∙ h.plans other; silent = h.silent; sound = h.sound }

  silent-requested : (s : State) (line : ℕ) (stage : Stage) (number tag : ℕ) → IsSilent start s → (stage ≡ Inband → (plan_at start number).rows.items ≡ []) → line ≢ 0
      → IsSilent start (with_lines s (lines.requested s.lines line stage number tag))
  silent-requested s line stage number tag h none other = record {
    plans = h.plans;
    silent = λ place at here. by place at (new-requested s.lines line stage number tag Inband place at here);
    sound = sound-filled s.lines stage line number tag h.sound other;
  }
    where
      by : (place : ℕ) (at : lines.Installed ℕ) → Stood s.lines Inband place at ⊎ ((Inband ≡ stage) × (at.callback ≡ number)) → (plan_at start at.callback).rows.items ≡ []
      by place at (inl was) = ap (λ (n : ℕ). (plan_at start n).rows.items) was.2 ∙ h.silent place was.0 was.1
      by place at (inr new) = ap (λ (n : ℕ). (plan_at start n).rows.items) new.1 ∙ none (sym new.0)

  silent-home : (s : State) (number : ℕ) → IsSilent start s → IsSilent start (come_home s number)
  silent-home s number h = by (slice_get s.bank number) refl
    where
      by : (o : Option Banked) → slice_get s.bank number ≡ o → IsSilent start (option_map_or (with_banked s true number) o s)
      by None here = h
      by (Some b) here = silent-moved s number true b h here

  silent-returned : (s : State) (o : Option (lines.Installed ℕ)) → IsSilent start s → IsSilent start (line_call.with_callback_back s o)
  silent-returned s None h = h
  silent-returned s (Some at) h = silent-home s at.callback h

  -- the clock has nothing to do with it
  silent-clock : (s : State) (c : Clock ℕ) → IsSilent start s → IsSilent start (with_clock s c)
  silent-clock s c h = record { plans = h.plans; silent = h.silent; sound = h.sound }

  -- nor have the threads
  silent-sched : (s : State) (q : Sched) → IsSilent start s → IsSilent start (with_sched s q)
  silent-sched s q h = record { plans = h.plans; silent = h.silent; sound = h.sound }

  -- nor have elements and waits
  kept_waiting : KeptByWakes (IsSilent start)
  kept_waiting = record {
    changed = λ s e h. record { plans = h.plans; silent = h.silent; sound = h.sound };
    waiting = λ s thread wait h. record { plans = h.plans; silent = h.silent; sound = h.sound };
    freed = λ s thread h. silent-clock s _ h;
    queued = λ s ready h. silent-sched s _ h;
  }

  kept_silent : KeptByClock (IsSilent start)
  kept_silent = record {
    posted = λ s h. silent-lines s (lines.posted s.lines Oob 0) h (old-posted s.lines Oob 0) (sound-posted s.lines Oob 0 h.sound (omega arith));
    charged = λ s before delta now h. silent-sched s _ h;
    advanced = λ s delta h. silent-clock s _ h;
    made = λ s n number tag b h here home allowed free. silent-moved (with_clock s _) number false b (silent-clock s _ h) here;
    started = λ s n date interval h. silent-clock s _ h;
    stopped = λ s n h. silent-clock s _ h;
    dropped = λ s n t h there. silent-home (with_clock s _) t.callback (silent-clock s _ h);
  }

  silent-post : (s : State) (stage : Stage) (line : ℕ) → IsSilent start s → Leaves (IsSilent start) (line_call.post s stage line)
  silent-post s stage line h = leaves-refused (IsSilent start) (lines.post_refusal line) _ (λ none.
      silent-lines s (lines.posted s.lines stage line) h (old-posted s.lines stage line) (sound-posted s.lines stage line h.sound (below_limit line none)))

  silent-line : (s : State) (step : LineStep) → IsSilent start s → AsksNoActions start (on_lines step) → Leaves (IsSilent start) (line_effect s step)
  silent-line s (request line stage number tag) h none = leaves-known (IsSilent start) (slice_get s.bank number) _ (λ b here.
      leaves-refused (IsSilent start) (lines.request_refusal s.lines line stage b.handler.kinds) _ (λ passed. leaves-unless (IsSilent start) (not b.home) Busy
      (done (with_banked (with_lines s (lines.requested s.lines line stage number tag)) false number b))
      (silent-moved (with_lines s (lines.requested s.lines line stage number tag)) number false b
      (silent-requested s line stage number tag h (λ is. none line number tag (ap (λ (v : Stage). on_lines (request line v number tag)) is)) (request-not_clock s.lines line stage b.handler.kinds passed)) here)))
  silent-line s (free line stage) h none = leaves-refused (IsSilent start) (lines.free_refusal s.lines line stage) _ (λ passed.
      silent-returned (with_lines s (lines.freed s.lines line stage)) (lines.installed_at s.lines stage line)
      (silent-lines s (lines.freed s.lines line stage) h (old-freed s.lines line stage) (sound-emptied s.lines stage line h.sound (free-not_clock s.lines line stage passed))))
  silent-line s (arrive line) h none = leaves-refused (IsSilent start) (lines.post_refusal line) _ (λ passed.
      silent-lines s (lines.arrived s.lines line) h (old-arrived s.lines line) (sound-arrived s.lines line h.sound (below_limit line passed)))
  silent-line s (post stage line) h none = silent-post s stage line h
  silent-line s (stall stage) h none = silent-lines s (lines.stalled s.lines stage) h (old-stalled s.lines stage) (sound-set_stalled s.lines stage true h.sound)
  silent-line s (unstall stage) h none = silent-lines s (lines.unstalled s.lines stage) h (old-unstalled s.lines stage) (sound-set_stalled s.lines stage false h.sound)

  silent-task : (s : State) (caller : ℕ) (task : Task) → IsSilent start s → AsksNoActions start task → Leaves (IsSilent start) (performing s caller task).effect
  silent-task s caller (on_lines step) h none = silent-line s step h none
  silent-task s caller (on_clock step) h none = leaves-clock (IsSilent start) kept_silent s step h
  silent-task s caller (on_threads step) h none = leaves-threads (IsSilent start) silent-sched s caller step h
  silent-task s caller (on_element step) h none = leaves-touched (IsSilent start) kept_waiting s (Some caller) step h
  silent-task s caller (on_staged step_from) h none = leaves-touched (IsSilent start) kept_waiting s (Some caller) (step_from caller (stage_of s.sched caller)) h
  silent-task s caller (raises n) h none = leaves-raising (IsSilent start) kept_waiting s caller n h
  silent-task s caller (begins wants until) h none =
      leaves-beginning (IsSilent start) kept_waiting (timed-by (IsSilent start) kept_waiting kept_silent.posted (λ s thread until h. silent-clock s _ h)) s caller wants until h
  silent-task s caller (ends keep) h none = leaves-finish (IsSilent start) kept_waiting s caller keep (λ x hx. silent-sched x _ hx) h

  pub silent-answer : (s : State) (caller : ℕ) (asked : Call) → IsSilent start s → AsksNoActions start (task_of asked) → Leaves (IsSilent start) (answer s caller asked)
  silent-answer s caller asked h none = leaves-refused (IsSilent start) (general_refusal s caller asked) (serve_call s caller asked) (λ passed. silent-task s caller (task_of asked) h none)

  silent-acted : (s : State) (line : ℕ) (action : Action) → IsSilent start s → IsSilent start (after_action s line action)
  silent-acted s line (PostSem sem) h = leaves-if_done (IsSilent start) s _ h (leaves-touched (IsSilent start) kept_waiting s None (on_sem sem.0 put) h)
  silent-acted s line (PostFlags flags bits) h = leaves-if_done (IsSilent start) s _ h (leaves-touched (IsSilent start) kept_waiting s None (on_flags flags.0 (group.post bits)) h)
  silent-acted s line Propagate h = leaves-if_done (IsSilent start) s _ h (silent-post s Inband line h)
  silent-acted s line (PostOob other) h = leaves-if_done (IsSilent start) s _ h (silent-post s Oob other.0 h)
  silent-acted s line (StopTimer timer) h = leaves-if_done (IsSilent start) s _ h (leaves-stop (IsSilent start) kept_silent s timer.0 h)

  silent-all_acted : (s : State) (line : ℕ) (actions : List Action) → IsSilent start s → IsSilent start (all_acted s line actions)
  silent-all_acted s line [] h = h
  silent-all_acted s line (action ∷ actions) h = silent-all_acted (after_action s line action) line actions (silent-acted s line action h)

  silent-answered : (s : State) (line : ℕ) (answer : Answer) → IsSilent start s → IsSilent start (after_answer s line answer)
  silent-answered s line answer h = by answer.handled
    where
      by : (b : Bool) → IsSilent start (if b then all_acted s line answer.actions.items else s)
      by true = silent-all_acted s line answer.actions.items h
      by false = h

  silent-line_played : (s : State) (stage : Stage) (line : ℕ) (at : lines.Installed ℕ) → IsSilent start s → lines.installed_at s.lines stage line ≡ Some at
      → IsSilent start (line_played s stage line at).1
  silent-line_played s stage line at h there =
      let given = answer_of (plan_at s at.callback) (one_more at.count) in
      silent-answered (with_lines s (lines.played s.lines stage line at given.handled)) line given
      (silent-lines s (lines.played s.lines stage line at given.handled) h (old-played s.lines stage line at given.handled there) (sound-played s.lines stage line at given.handled h.sound there))

  -- the play of a due item
  pub silent-item : (s : State) (found : Item) → IsSilent start s → next_due s.clock ≡ Some found → IsSilent start (item_played s found).1
  silent-item s found h due = leaves-item (IsSilent start) kept_silent (λ s n t h there. silent-clock s _ h) (kept-deadline (IsSilent start) kept_waiting) silent-answered s found h due

  -- a line that is pending in-band has a callback there
  pub inband_there : (s : State) (line : ℕ) → IsSilent start s → lines.is_pending s.lines Inband line ≡ true → (at : lines.Installed ℕ) × (lines.installed_at s.lines Inband line ≡ Some at)
  inband_there s line h pends = by (lines.installed_at s.lines Inband line) (h.sound.stands Inband line pends)
    where
      by : (o : Option (lines.Installed ℕ)) → is_some o ≡ true → (at : lines.Installed ℕ) × (o ≡ Some at)
      by None e = absurd (false≢true e)
      by (Some at) e = (at, refl)

  -- a play
  pub silent-played : (s : State) (stage : Stage) (line : ℕ) → IsSilent start s → lines.is_pending s.lines stage line ≡ true → IsSilent start (pending_played s stage line).1
  silent-played s Inband line h pends =
      let found = inband_there s line h pends in
      subst (λ (o : Option (lines.Installed ℕ)). IsSilent start (line_played s Inband line (unwrap_or o nothing)).1) (sym found.1) (silent-line_played s Inband line found.0 h found.1)
  silent-played s Oob line h pends = by (line == 0) (lines.installed_at s.lines Oob line) refl refl
    where
      by : (b : Bool) (o : Option (lines.Installed ℕ)) → (line == 0) ≡ b → lines.installed_at s.lines Oob line ≡ o
          → IsSilent start (if b then clock_played s else line_played s Oob line (unwrap_or o nothing)).1
      by true o is there = silent-lines s _ h (old-cleared s.lines Oob 0) (sound-cleared s.lines Oob 0 h.sound)
      by false (Some at) is there = silent-line_played s Oob line at h there
      by false None is there = absurd (false≢true (sym is ∙ grind_zero (clock-only s.lines Oob line (h.sound.stands Oob line pends) there).1))
        where
          grind_zero : line ≡ 0 → (line == 0) ≡ true
          grind_zero e = grind (arith, nat_tests)

-- a new kernel
pub silent-opening : (board : Board) (bank : List Handler) → IsSilent (opening board bank) (opening board bank)
unfolding lines.opening
silent-opening board bank = record {
  plans = λ number. refl;
  silent = λ line at here. absurd (none_there None at refl (sym (at-none line_count line) ∙ here));
  sound = sound-opening;
}
