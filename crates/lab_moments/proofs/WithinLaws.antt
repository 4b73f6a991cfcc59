-- Callbacks are installed on lines for which calls asked, and what is pending has one: each call and each play keeps that.
use Rattle.std.proofs.Common.{◌≡◌, ◌≢◌, ◌≤◌, ◌<◌, ℕ, ◌+◌, ◌==◌, min, nat_lt, ◌⊎◌, inl, inr, Bool, true, false, not, List, [], ◌∷◌, Option, Some, None, Result, Ok, Err, is_some, unwrap_or, slice_get, if◌then◌else◌, refl, sym, ap, ◌∙◌, subst, arith}
use Rattle.std.specs.Option.{option_map_or}
use Rattle.std.proofs.lemmas.Bool.{false≢true}
use Rattle.std.proofs.lemmas.Bool.Decides.{nat_tests}
use Rattle.std.proofs.lemmas.Option.{none-some}
use Rattle.evl_base.specs.declared.stage.Stage.{Stage}
use Rattle.evl_base.specs.declared.stage.Stage.TheVariants.{Inband, Oob}
use Rattle.evl_base.specs.declared.call.Call.{Call}
use Rattle.evl_base.specs.declared.entry.Entry.{Entry}
use Rattle.evl_base.specs.declared.play.Play.{Play}
use Rattle.evl_base.specs.declared.refusal.Refusal.{Refusal}
use Rattle.evl_base.specs.declared.refusal.Refusal.TheVariants.{Busy}
use Rattle.evl_base.specs.declared.reply.Reply.{Reply}
use Rattle.evl_base.specs.declared.board.Board.{Board}
use Rattle.evl_pipeline.specs.declared.action.Action.{Action}
use Rattle.evl_pipeline.specs.declared.action.Action.TheVariants.{PostSem, PostFlags, Propagate, PostOob, StopTimer}
use Rattle.evl_pipeline.specs.declared.answer.Answer.{Answer}
use Rattle.evl_pipeline.specs.Counts.{one_more}
use Rattle.evl_pipeline.specs.Plans.{answer_of}
use Rattle.evl_pipeline.specs.Lines as lines
use Rattle.evl_pipeline.specs.Limits.{line_count}
use Rattle.evl_pipeline.proofs.PortLaws.{at-none, none_there}
use Rattle.evl_pipeline.proofs.LineLaws.{sound-opening, sound-set_stalled, sound-cleared, sound-filled, sound-played, sound-emptied, clock-only, request-not_clock}
use Rattle.evl_clock.specs.declared.due.Item.{Item}
use Rattle.evl_clock.specs.Dues.{next_due}
use Rattle.evl_clock.specs.Clocks.{Clock}
use Rattle.evl_sched.specs.Threads.{Sched, stage_of}
use Rattle.evl_sched.specs.Picks.{is_anyone_eligible}
use Rattle.evl_kernel.specs.state.Limits.{inband_limit}
use Rattle.evl_kernel.specs.state.States.{State, Handler, Banked, with_lines, with_clock, with_sched, with_banked, come_home, plan_at}
use Rattle.evl_kernel.specs.state.Openings.{opening}
use Rattle.evl_kernel.specs.calls.Effects.{Effect, done}
use Rattle.evl_kernel.specs.calls.Semaphores.{put}
use Rattle.evl_kernel.specs.calls.FlagGroups as group
use Rattle.evl_kernel.specs.calls.Elements.{on_sem, on_flags}
use Rattle.evl_kernel.specs.calls.LineCalls as line_call
use Rattle.evl_kernel.specs.calls.Families.{LineStep, request, free, arrive, post, stall, unstall, line_effect, Task, on_lines, on_clock, on_threads, on_element, on_staged, begins, ends, performing, task_of, raises}
use Rattle.evl_kernel.specs.calls.Serving.{serve_call, general_refusal, answer}
use Rattle.evl_kernel.specs.settling.Paths.{Along}
use Rattle.evl_kernel.specs.settling.Settling.{Settling, next_play, going_on, after_call, after_action, all_acted, after_answer, item_next, item_played, line_next, pending_played, line_played, clock_played, nothing}
use Rattle.evl_kernel.specs.histories.Histories.{History, Run, Follows, IsLegal, opened_kernel}
use Rattle.evl_kernel.proofs.calls.LeavesLaws.{Leaves, leaves-refused, leaves-unless, leaves-known, leaves-if_done}
use Rattle.evl_kernel.proofs.calls.ClockSteps.{KeptByClock, leaves-clock, leaves-stop, leaves-item}
use Rattle.evl_kernel.proofs.calls.ThreadSteps.{leaves-threads}
use Rattle.evl_kernel.proofs.waiting.WaitSteps.{KeptByWakes, kept-deadline, leaves-touched, leaves-beginning, leaves-finish, timed-by, leaves-raising}
use Rattle.evl_kernel.proofs.waiting.StandingLaws.{OnlyOld, Stood, set-lookup, old-posted, old-arrived, old-stalled, old-unstalled, old-cleared, old-freed, old-played}
use Rattle.evl_kernel.proofs.settling.DueLaws.{one_played, item_due}
use Rattle.evl_kernel.proofs.histories.SilenceLaws.{below_limit, sound-posted, sound-arrived, free-not_clock}
use Rattle.evl_kernel.proofs.histories.WorldLaws.{chosen, chosen_pends}
use Rattle.lab_moments.specs.Asked.{below_task, below_call, below_entries}

-- what is installed anywhere is on such a line, and what is pending has a callback
pub record IsWithin (top : ℕ) (s : State) : Type 0 where
  pub within : (stage : Stage) (line : ℕ) (at : lines.Installed ℕ) → lines.installed_at s.lines stage line ≡ Some at → min line_count (line + 1) ≤ top
  pub sound : lines.IsSoundPipeline s.lines

-- what is installed after a request was installed before it, or is on its line
new_there : (p : lines.Pipeline ℕ) (line : ℕ) (stage : Stage) (number tag : ℕ) (other_stage : Stage) (other : ℕ) (at : lines.Installed ℕ)
    → lines.installed_at (lines.requested p line stage number tag) other_stage other ≡ Some at → Stood p other_stage other at ⊎ (other ≡ line)
new_there p line Oob number tag Oob other at h = came (set-lookup p.oob.installed line other _ at h)
  where
    came : (lines.callback_on p.oob other ≡ Some at) ⊎ ((other ≡ line) × (Some (record { callback = number; tag = tag; count = 0 }) ≡ Some at)) → Stood p Oob other at ⊎ (other ≡ line)
    came (inl old) = inl (at, old, refl)
    came (inr (same, is)) = inr same
new_there p line Oob number tag Inband other at h = inl (at, h, refl)
new_there p line Inband number tag Oob other at h = inl (at, h, refl)
new_there p line Inband number tag Inband other at h = came (set-lookup p.inband.installed line other _ at h)
  where
    came : (lines.callback_on p.inband other ≡ Some at) ⊎ ((other ≡ line) × (Some (record { callback = number; tag = tag; count = 0 }) ≡ Some at)) → Stood p Inband other at ⊎ (other ≡ line)
    came (inl old) = inl (at, old, refl)
    came (inr (same, is)) = inr same

bare : (stage : Stage) (line : ℕ) (at : lines.Installed ℕ) → lines.installed_at lines.opening stage line ≡ Some at → ⊥
unfolding lines.opening
bare Oob line at here = none_there None at refl (sym (at-none line_count line) ∙ here)
bare Inband line at here = none_there None at refl (sym (at-none line_count line) ∙ here)

other_stage : Inband ≡ Oob → ⊥
other_stage e = cc

module _ (top : ℕ) where
  within-lines : (s : State) (q : lines.Pipeline ℕ) → IsWithin top s → OnlyOld s.lines q → lines.IsSoundPipeline q → IsWithin top (with_lines s q)
  within-lines s q h old sound = record {
    within = λ stage line at here. let was = old stage line at here in h.within stage line was.0 was.1;
    sound = sound;
  }

  within-moved : (s : State) (number : ℕ) (home : Bool) (b : Banked) → IsWithin top s → IsWithin top (with_banked s home number b)
  within-moved s number home b h = record { within = h.within; sound = h.sound }

  within-requested : (s : State) (line : ℕ) (stage : Stage) (number tag : ℕ) → IsWithin top s → min line_count (line + 1) ≤ top → line ≢ 0
      → IsWithin top (with_lines s (lines.requested s.lines line stage number tag))
  within-requested s line stage number tag h below other = record {
    within = λ other_stage place at here. by other_stage place at (new_there s.lines line stage number tag other_stage place at here);
    sound = sound-filled s.lines stage line number tag h.sound other;
  }
    where
      by : (other_stage : Stage) (place : ℕ) (at : lines.Installed ℕ) → Stood s.lines other_stage place at ⊎ (place ≡ line) → min line_count (place + 1) ≤ top
      by other_stage place at (inl was) = h.within other_stage place was.0 was.1
      by other_stage place at (inr same) = subst (λ (n : ℕ). min line_count (n + 1) ≤ top) (sym same) below

  within-home : (s : State) (number : ℕ) → IsWithin top s → IsWithin top (come_home s number)
  within-home s number h = by (slice_get s.bank number)
    where
      by : (o : Option Banked) → IsWithin top (option_map_or (with_banked s true number) o s)
      by None = h
      by (Some b) = within-moved s number true b h

  within-returned : (s : State) (o : Option (lines.Installed ℕ)) → IsWithin top s → IsWithin top (line_call.with_callback_back s o)
  within-returned s None h = h
  within-returned s (Some at) h = within-home s at.callback h

  within-clock : (s : State) (c : Clock ℕ) → IsWithin top s → IsWithin top (with_clock s c)
  within-clock s c h = record { within = h.within; sound = h.sound }

  within-sched : (s : State) (q : Sched) → IsWithin top s → IsWithin top (with_sched s q)
  within-sched s q h = record { within = h.within; sound = h.sound }

  kept_waiting : KeptByWakes (IsWithin top)
  kept_waiting = record {
    changed = λ s e h. record { within = h.within; sound = h.sound };
    waiting = λ s thread wait h. record { within = h.within; sound = h.sound };
    freed = λ s thread h. within-clock s _ h;
    queued = λ s ready h. within-sched s _ h;
  }

  kept_within : KeptByClock (IsWithin top)
  kept_within = record {
    posted = λ s h. within-lines s (lines.posted s.lines Oob 0) h (old-posted s.lines Oob 0) (sound-posted s.lines Oob 0 h.sound (omega arith));
    charged = λ s before delta now h. within-sched s _ h;
    advanced = λ s delta h. within-clock s _ h;
    made = λ s n number tag b h here home allowed free. within-moved (with_clock s _) number false b (within-clock s _ h);
    started = λ s n date interval h. within-clock s _ h;
    stopped = λ s n h. within-clock s _ h;
    dropped = λ s n t h there. within-home (with_clock s _) t.callback (within-clock s _ h);
  }

  within-post : (s : State) (stage : Stage) (line : ℕ) → IsWithin top s → Leaves (IsWithin top) (line_call.post s stage line)
  within-post s stage line h = leaves-refused (IsWithin top) (lines.post_refusal line) _ (λ none.
      within-lines s (lines.posted s.lines stage line) h (old-posted s.lines stage line) (sound-posted s.lines stage line h.sound (below_limit line none)))

  within-line : (s : State) (step : LineStep) → IsWithin top s → below_task (on_lines step) ≤ top → Leaves (IsWithin top) (line_effect s step)
  within-line s (request line stage number tag) h below = leaves-known (IsWithin top) (slice_get s.bank number) _ (λ b here.
      leaves-refused (IsWithin top) (lines.request_refusal s.lines line stage b.handler.kinds) _ (λ passed. leaves-unless (IsWithin top) (not b.home) Busy
      (done (with_banked (with_lines s (lines.requested s.lines line stage number tag)) false number b))
      (within-moved (with_lines s (lines.requested s.lines line stage number tag)) number false b
      (within-requested s line stage number tag h below (request-not_clock s.lines line stage b.handler.kinds passed)))))
  within-line s (free line stage) h below = leaves-refused (IsWithin top) (lines.free_refusal s.lines line stage) _ (λ passed.
      within-returned (with_lines s (lines.freed s.lines line stage)) (lines.installed_at s.lines stage line)
      (within-lines s (lines.freed s.lines line stage) h (old-freed s.lines line stage) (sound-emptied s.lines stage line h.sound (free-not_clock s.lines line stage passed))))
  within-line s (arrive line) h below = leaves-refused (IsWithin top) (lines.post_refusal line) _ (λ passed.
      within-lines s (lines.arrived s.lines line) h (old-arrived s.lines line) (sound-arrived s.lines line h.sound (below_limit line passed)))
  within-line s (post stage line) h below = within-post s stage line h
  within-line s (stall stage) h below = within-lines s (lines.stalled s.lines stage) h (old-stalled s.lines stage) (sound-set_stalled s.lines stage true h.sound)
  within-line s (unstall stage) h below = within-lines s (lines.unstalled s.lines stage) h (old-unstalled s.lines stage) (sound-set_stalled s.lines stage false h.sound)

  within-task : (s : State) (caller : ℕ) (task : Task) → IsWithin top s → below_task task ≤ top → Leaves (IsWithin top) (performing s caller task).effect
  within-task s caller (on_lines step) h below = within-line s step h below
  within-task s caller (on_clock step) h below = leaves-clock (IsWithin top) kept_within s step h
  within-task s caller (on_threads step) h below = leaves-threads (IsWithin top) within-sched s caller step h
  within-task s caller (on_element step) h below = leaves-touched (IsWithin top) kept_waiting s (Some caller) step h
  within-task s caller (on_staged step_from) h below = leaves-touched (IsWithin top) kept_waiting s (Some caller) (step_from caller (stage_of s.sched caller)) h
  within-task s caller (raises n) h below = leaves-raising (IsWithin top) kept_waiting s caller n h
  within-task s caller (begins wants until) h below =
      leaves-beginning (IsWithin top) kept_waiting (timed-by (IsWithin top) kept_waiting kept_within.posted (λ s thread until h. within-clock s _ h)) s caller wants until h
  within-task s caller (ends keep) h below = leaves-finish (IsWithin top) kept_waiting s caller keep (λ x hx. within-sched x _ hx) h

  within-answer : (s : State) (caller : ℕ) (asked : Call) → IsWithin top s → below_call asked ≤ top → Leaves (IsWithin top) (answer s caller asked)
  within-answer s caller asked h below = leaves-refused (IsWithin top) (general_refusal s caller asked) (serve_call s caller asked) (λ passed. within-task s caller (task_of asked) h below)

  within-acted : (s : State) (line : ℕ) (action : Action) → IsWithin top s → IsWithin top (after_action s line action)
  within-acted s line (PostSem sem) h = leaves-if_done (IsWithin top) s _ h (leaves-touched (IsWithin top) kept_waiting s None (on_sem sem.0 put) h)
  within-acted s line (PostFlags flags bits) h = leaves-if_done (IsWithin top) s _ h (leaves-touched (IsWithin top) kept_waiting s None (on_flags flags.0 (group.post bits)) h)
  within-acted s line Propagate h = leaves-if_done (IsWithin top) s _ h (within-post s Inband line h)
  within-acted s line (PostOob other) h = leaves-if_done (IsWithin top) s _ h (within-post s Oob other.0 h)
  within-acted s line (StopTimer timer) h = leaves-if_done (IsWithin top) s _ h (leaves-stop (IsWithin top) kept_within s timer.0 h)

  within-all_acted : (s : State) (line : ℕ) (actions : List Action) → IsWithin top s → IsWithin top (all_acted s line actions)
  within-all_acted s line [] h = h
  within-all_acted s line (action ∷ actions) h = within-all_acted (after_action s line action) line actions (within-acted s line action h)

  within-answered : (s : State) (line : ℕ) (answer : Answer) → IsWithin top s → IsWithin top (after_answer s line answer)
  within-answered s line answer h = by answer.handled
    where
      by : (b : Bool) → IsWithin top (if b then all_acted s line answer.actions.items else s)
      by true = within-all_acted s line answer.actions.items h
      by false = h

  within-line_played : (s : State) (stage : Stage) (line : ℕ) (at : lines.Installed ℕ) → IsWithin top s → lines.installed_at s.lines stage line ≡ Some at
      → IsWithin top (line_played s stage line at).1
  within-line_played s stage line at h there =
      let given = answer_of (plan_at s at.callback) (one_more at.count) in
      within-answered (with_lines s (lines.played s.lines stage line at given.handled)) line given
      (within-lines s (lines.played s.lines stage line at given.handled) h (old-played s.lines stage line at given.handled there) (sound-played s.lines stage line at given.handled h.sound there))

  within-item : (s : State) (found : Item) → IsWithin top s → next_due s.clock ≡ Some found → IsWithin top (item_played s found).1
  within-item s found h due = leaves-item (IsWithin top) kept_within (λ s n t h there. within-clock s _ h) (kept-deadline (IsWithin top) kept_waiting) within-answered s found h due

  -- what is pending has a callback installed, or is line 0
  there : (s : State) (stage : Stage) (line : ℕ) → IsWithin top s → lines.is_pending s.lines stage line ≡ true
      → ((at : lines.Installed ℕ) × (lines.installed_at s.lines stage line ≡ Some at)) ⊎ ((stage ≡ Oob) × (line ≡ 0))
  there s stage line h pends = by (lines.installed_at s.lines stage line) refl
    where
      by : (o : Option (lines.Installed ℕ)) → lines.installed_at s.lines stage line ≡ o
          → ((at : lines.Installed ℕ) × (lines.installed_at s.lines stage line ≡ Some at)) ⊎ ((stage ≡ Oob) × (line ≡ 0))
      by None is = inr (clock-only s.lines stage line (h.sound.stands stage line pends) is)
      by (Some at) is = inl (at, is)

  within-clock_played : (s : State) → IsWithin top s → IsWithin top (clock_played s).1
  within-clock_played s h = within-lines s _ h (old-cleared s.lines Oob 0) (sound-cleared s.lines Oob 0 h.sound)

  within-played : (s : State) (stage : Stage) (line : ℕ) → IsWithin top s → lines.is_pending s.lines stage line ≡ true → IsWithin top (pending_played s stage line).1
  within-played s Inband line h pends = by (there s Inband line h pends)
    where
      by : ((at : lines.Installed ℕ) × (lines.installed_at s.lines Inband line ≡ Some at)) ⊎ ((Inband ≡ Oob) × (line ≡ 0))
          → IsWithin top (line_played s Inband line (unwrap_or (lines.installed_at s.lines Inband line) nothing)).1
      by (inl (at, is)) = subst (λ (o : Option (lines.Installed ℕ)). IsWithin top (line_played s Inband line (unwrap_or o nothing)).1) (sym is) (within-line_played s Inband line at h is)
      by (inr (other, none)) = absurd (other_stage other)
  within-played s Oob line h pends = by (line == 0) (lines.installed_at s.lines Oob line) refl refl
    where
      by : (b : Bool) (o : Option (lines.Installed ℕ)) → (line == 0) ≡ b → lines.installed_at s.lines Oob line ≡ o
          → IsWithin top (if b then clock_played s else line_played s Oob line (unwrap_or o nothing)).1
      by true o is at = within-clock_played s h
      by false (Some at) is here = within-line_played s Oob line at h here
      by false None is none = absurd (false≢true (sym is ∙ of_zero (clock-only s.lines Oob line (h.sound.stands Oob line pends) none).1))
        where
          of_zero : line ≡ 0 → (line == 0) ≡ true
          of_zero e = grind (arith, nat_tests)

  next_within : (at mid : Settling) (one : Play) → IsWithin top at.state → next_play at ≡ Some (one, mid) → IsWithin top mid.state
  next_within at mid one h next = one_played (λ (x : Play × Settling). IsWithin top x.1.state) at mid one
      (λ found is. within-item at.state found h (item_due at found is))
      (λ stage line none is. within-played at.state stage line h
      (chosen_pends at.state.lines stage line (chosen at.state.lines (is_anyone_eligible at.state.sched) (nat_lt at.inband inband_limit) stage line is))) next

  along_within : (at last : Settling) (plays : List Play) → IsWithin top at.state → Along next_play at plays last → IsWithin top last.state
  along_within at last [] h path = subst (λ (x : Settling). IsWithin top x.state) (sym path) h
  along_within at last (one ∷ plays) h (mid, next, path) = along_within mid last plays (next_within at mid one h next) path

  follows_within : (old : State) (effect : Effect) (reply : Result Reply Refusal) (plays : List Play) (new : State)
      → IsWithin top old → Leaves (IsWithin top) effect → Follows old effect reply plays new → IsWithin top new
  follows_within old (Err refusal) reply plays new h left p = subst (IsWithin top) (sym p.2) h
  follows_within old (Ok (said, changed)) reply plays new h left (is, settles) =
      subst (IsWithin top) (sym settles.left) (along_within (after_call changed) settles.last plays left settles.played)

  run_within : (old : State) (entries : List Entry) (plays : List Play) (new : State) → IsWithin top old → below_entries entries ≤ top → Run old entries plays new → IsWithin top new
  run_within old [] plays new h below run = subst (IsWithin top) (sym run.1) h
  run_within old (e ∷ entries) plays new h below (mine, rest, mid, split, (counted, step), run) =
      let first : below_call e.call ≤ top = omega (arith, below) in
      run_within mid entries rest new (follows_within old (answer old e.caller.0 e.call) e.reply mine mid h (within-answer old e.caller.0 e.call h first) step) (omega (arith, below)) run

  -- a new kernel
  within-opening : (board : Board) (bank : List Handler) → IsWithin top (opening board bank)
  within-opening board bank = record { within = λ stage line at here. absurd (bare stage line at here); sound = sound-opening }

  -- after those lines nothing is pending
  pub quiet_behind : (h : History) → IsLegal h → below_entries h.entries ≤ top → 1 ≤ top → (stage : Stage) (line : ℕ) → top ≤ line → line < 4096
      → lines.is_pending h.state.lines stage line ≡ false
  quiet_behind h legal asked some stage line behind few = by (lines.is_pending h.state.lines stage line) refl
    where
      known : IsWithin top h.state
      known = run_within (opened_kernel h) h.entries h.plays h.state (within-opening h.board h.bank) asked legal

      by : (b : Bool) → lines.is_pending h.state.lines stage line ≡ b → b ≡ false
      by false is = refl
      by true is = absurd (stands (there h.state stage line known is))
        where
          stands : ((at : lines.Installed ℕ) × (lines.installed_at h.state.lines stage line ≡ Some at)) ⊎ ((stage ≡ Oob) × (line ≡ 0)) → ⊥
          stands (inl (at, here)) = let below : min line_count (line + 1) ≤ top = known.within stage line at here in omega (arith, below, behind, few)
          stands (inr (oob, first)) = omega (arith, first, behind, some)
