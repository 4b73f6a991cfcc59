-- After each call something is due only where line 0 is pending out-of-band.
use Rattle.std.proofs.Common.{◌≡◌, ℕ, zero, suc, ◌+◌, ◌≤◌, ◌==◌, min, replicate, nat_le, Bool, true, false, not, ◌&&◌, ◌||◌, List, [], ◌∷◌, length, map, Option, Some, None, Result, Ok, Err, is_some, unwrap_or, slice_get, slice_set, if◌then◌else◌, refl, sym, ap, ◌∙◌, subst, arith, length-append}
use Rattle.std.specs.Option.{option_map, option_map_or}
use Rattle.std.proofs.lemmas.Bool.{false≢true, or_right}
use Rattle.std.proofs.lemmas.Bool.Decides.{nat_tests}
use Rattle.std.proofs.lemmas.Option.{none-some}
use Rattle.evl_base.proofs.Plain.{some-none}
use Rattle.evl_base.specs.Limits.{thread_limit}
use Rattle.evl_base.specs.declared.board.Board.{Board}
use Rattle.evl_base.specs.declared.call.Call.{Call}
use Rattle.evl_base.specs.declared.entry.Entry.{Entry}
use Rattle.evl_base.specs.declared.play.Play.{Play}
use Rattle.evl_base.specs.declared.refusal.Refusal.{Refusal}
use Rattle.evl_base.specs.declared.refusal.Refusal.TheVariants.{Invalid, Busy}
use Rattle.evl_base.specs.declared.reply.Reply.{Reply}
use Rattle.evl_base.specs.declared.stage.Stage.{Stage}
use Rattle.evl_base.specs.declared.stage.Stage.TheVariants.{Inband, Oob}
use Rattle.evl_pipeline.specs.declared.action.Action.{Action}
use Rattle.evl_pipeline.specs.declared.action.Action.TheVariants.{PostSem, PostFlags, Propagate, PostOob, StopTimer}
use Rattle.evl_pipeline.specs.declared.answer.Answer.{Answer}
use Rattle.evl_pipeline.specs.Counts.{count_raised}
use Rattle.evl_pipeline.specs.NumberSet.{contains, remove}
use Rattle.evl_pipeline.specs.Lines as lines
use Rattle.evl_pipeline.proofs.NumberSetLaws.{contains-insert, contains-remove}
use Rattle.evl_pipeline.proofs.PortLaws.{map-set}
use Rattle.evl_clock.specs.declared.due.Item.{Item}
use Rattle.evl_clock.specs.declared.due.Item.TheVariants as item
use Rattle.evl_clock.specs.declared.timer.Timer.{Timer}
use Rattle.evl_clock.specs.Timers as timers
use Rattle.evl_clock.specs.Timers.{is_timer_allowed}
use Rattle.evl_clock.specs.Clocks as clocks
use Rattle.evl_clock.specs.Clocks.{Clock, timer_at, with_timer}
use Rattle.evl_clock.specs.Dues.{all_due, due_from, due_of, due_count, earliest, is_due, next_due, timer, deadline, timer_date}
use Rattle.evl_clock.specs.Searching.{least_in, sooner_item}
use Rattle.evl_clock.proofs.LeastLaws.{earliest-least}
use Rattle.evl_clock.proofs.DueLaws.{no_more_due, fewer-stop, fewer-dropped, fewer-cleared}
use Rattle.evl_kernel.specs.settling.Paths.{Along}
use Rattle.evl_kernel.specs.state.States.{State, Handler, Banked, with_lines, with_clock, with_banked, come_home}
use Rattle.evl_kernel.specs.calls.Effects.{Effect, done, unless}
use Rattle.evl_kernel.specs.calls.FlagGroups as group
use Rattle.evl_kernel.specs.calls.Elements.{on_sem, on_flags}
use Rattle.evl_kernel.specs.waiting.Waits.{is_past}
use Rattle.evl_kernel.specs.calls.Semaphores.{put}
use Rattle.evl_kernel.specs.calls.LineCalls as line_call
use Rattle.evl_kernel.specs.calls.TimerCalls as timer_call
use Rattle.evl_sched.specs.Threads.{stage_of}
use Rattle.evl_kernel.specs.calls.Families.{LineStep, request, free, arrive, post, stall, unstall, line_effect, ClockStep, tick, read_date, new_timer, start_timer, stop_timer, drop_timer, overruns, clock_effect, Task, on_lines, on_clock, on_threads, on_element, on_staged, begins, ends, performing, task_of, raises}
use Rattle.evl_kernel.specs.calls.Serving.{serve_call, general_refusal, answer}
use Rattle.evl_kernel.specs.settling.Settling.{Settling, item_next, next_play, going_on, is_of_clock, item_played, pending_played, line_played, clock_played, after_action, all_acted, after_answer, answer_given, after_call, nothing}
use Rattle.evl_kernel.specs.state.Openings.{opening}
use Rattle.evl_kernel.specs.histories.Histories.{Run, Follows, opened_kernel}
use Rattle.evl_kernel.specs.histories.Laws.{DueMeansPending}
use Rattle.evl_kernel.proofs.calls.LeavesLaws.{Leaves, leaves-refused, leaves-unless, leaves-known, leaves-if_done}
use Rattle.evl_kernel.proofs.calls.ThreadSteps.{leaves-threads}
use Rattle.evl_kernel.proofs.waiting.WaitSteps.{KeptByWakes, leaves-touched, leaves-beginning, leaves-finish, leaves-raising}
use Rattle.evl_kernel.proofs.settling.DueLaws.{one_played, none_played}

-- nothing is next exactly where no item is due
module _ where
  least_some : (d : ℕ × Item) (ds : List (ℕ × Item)) → option_map (λ e. e.1) (least_in (d ∷ ds)) ≡ None → ⊥
  least_some d ds = by (least_in ds)
    where
      by : (o : Option (ℕ × Item)) → option_map (λ e. e.1) (sooner_item (Some d) o) ≡ None → ⊥
      by None e = some-none _ e
      by (Some b) e = by_date (nat_le d.0 b.0) e
        where
          by_date : (c : Bool) → option_map (λ e. e.1) (if c then Some d else Some b) ≡ None → ⊥
          by_date true e = some-none _ e
          by_date false e = some-none _ e

  none_zero : (items : List (ℕ × Item)) → option_map (λ d. d.1) (earliest items) ≡ None → length items ≡ 0
  none_zero [] e = refl
  none_zero (d ∷ ds) e = absurd (least_some d ds (ap (option_map (λ d. d.1)) (sym (earliest-least (d ∷ ds))) ∙ e))

  some_one : (items : List (ℕ × Item)) (found : Item) → option_map (λ d. d.1) (earliest items) ≡ Some found → 1 ≤ length items
  some_one [] found e = absurd (none-some _ (ap (option_map (λ d. d.1)) (sym (earliest-least [])) ∙ e))
  some_one (d ∷ ds) found e = omega arith

module _ {C : Type 0} where
  nothing_zero : (c : Clock C) → next_due c ≡ None → due_count c ≡ 0
  unfolding next_due due_count
  nothing_zero c e = none_zero (all_due c) e

  found_one : (c : Clock C) (found : Item) → next_due c ≡ Some found → 1 ≤ due_count c
  unfolding next_due due_count
  found_one c found e = some_one (all_due c) found e

  due_one : (c : Clock C) → is_due c ≡ true → 1 ≤ due_count c
  due_one c = by (next_due c) refl
    where
      by : (o : Option Item) → next_due c ≡ o → is_some o ≡ true → 1 ≤ due_count c
      by None is e = absurd (false≢true e)
      by (Some found) is e = found_one c found is

  not_due_zero : (c : Clock C) → is_due c ≡ false → due_count c ≡ 0
  not_due_zero c = by (next_due c) refl
    where
      by : (o : Option Item) → next_due c ≡ o → is_some o ≡ false → due_count c ≡ 0
      by None is e = nothing_zero c is
      by (Some found) is e = absurd (false≢true (sym e))

  -- what isn't due in place of a timer leaves no more due than before
  no_more : (c : Clock C) (n : ℕ) (t : Option (Timer C)) → ((x : Item) → due_of c.now (timer_date t) x ≡ []) → due_count (with_timer c n t) ≤ due_count c
  unfolding due_count
  no_more c n t gone =
      omega (
        arith,
        length-append (due_from timer c.now 0 (map timer_date c.timers)) (due_from deadline c.now 0 c.deadlines),
        length-append (due_from timer c.now 0 (map timer_date (slice_set c.timers n t))) (due_from deadline c.now 0 c.deadlines),
        ap (λ (dates : List (Option ℕ)). length (due_from timer c.now 0 dates)) (map-set timer_date c.timers n t),
        no_more_due timer c.now 0 (map timer_date c.timers) n (timer_date t) gone,
      )

  -- a timer whose date is after now isn't due
  started_later : (c : Clock C) (n date interval : ℕ) → nat_le date c.now ≡ false → due_count (clocks.start c n date interval) ≤ due_count c
  started_later c n date interval later = no_more c n _ (λ x. by x (timer_at c n))
    where
      by : (x : Item) (o : Option (Timer C)) → due_of c.now (timer_date (option_map (λ t. timers.started t date interval) o)) x ≡ []
      by x None = refl
      by x (Some t) = ap (λ (b : Bool). if b then (date, x) ∷ [] else []) later

  -- a deadline that is after now isn't due
  dated_later : (c : Clock C) (n date : ℕ) → nat_le date c.now ≡ false → due_count (clocks.with_deadline c n (Some date)) ≤ due_count c
  unfolding due_count
  dated_later c n date later =
      omega (
        arith,
        length-append (due_from timer c.now 0 (map timer_date c.timers)) (due_from deadline c.now 0 c.deadlines),
        length-append (due_from timer c.now 0 (map timer_date c.timers)) (due_from deadline c.now 0 (slice_set c.deadlines n (Some date))),
        no_more_due deadline c.now 0 c.deadlines n (Some date) (λ x. ap (λ (b : Bool). if b then (date, x) ∷ [] else []) later),
      )

  made_idle : (c : Clock C) (n : ℕ) (callback : C) (tag : ℕ) → due_count (clocks.with_new_timer c n callback tag) ≤ due_count c
  made_idle c n callback tag = no_more c n (Some (timers.made callback tag)) (λ x. refl)

-- line 0 is pending out-of-band
abbrev Pends : lines.Pipeline ℕ → Type 0
Pends p = lines.is_pending p Oob 0 ≡ true

-- where something is due, line 0 is pending
abbrev IsHeld : State → Type 0
IsHeld s = 1 ≤ due_count s.clock → Pends s.lines

pends-posted : (p : lines.Pipeline ℕ) (stage : Stage) (line : ℕ) → Pends p → Pends (lines.posted p stage line)
pends-posted p Inband line h = by (lines.has_callback p Inband line)
  where
    by : (b : Bool) → Pends (if b then lines.with_side p Inband (lines.logged p.inband line) else record p { spurious = count_raised p.spurious line })
    by true = h
    by false = h
pends-posted p Oob line h = by (lines.has_callback p Oob line)
  where
    by : (b : Bool) → Pends (if b then lines.with_side p Oob (lines.logged p.oob line) else record p { spurious = count_raised p.spurious line })
    by true = contains-insert p.oob.pending line 0 ∙ or_right (line == 0) (contains p.oob.pending 0) h
    by false = h

-- an event of line 0 pends
posted-pends : (p : lines.Pipeline ℕ) → Pends (lines.posted p Oob 0)
posted-pends p = contains-insert p.oob.pending 0 0

pends-arrived : (p : lines.Pipeline ℕ) (line : ℕ) → Pends p → Pends (lines.arrived p line)
pends-arrived p line h = by (lines.has_callback p Oob line)
  where
    by : (b : Bool) → Pends (if b then lines.posted p Oob line else lines.posted p Inband line)
    by true = pends-posted p Oob line h
    by false = pends-posted p Inband line h

-- line 0 stays where another line is taken away
pends-removed : (pending : List ℕ) (line : ℕ) → (line == 0) ≡ false → contains pending 0 ≡ true → contains (remove pending line) 0 ≡ true
pends-removed pending line other h = contains-remove pending line 0 ∙ ((λ i. not (other i) && h i))

pends-freed : (p : lines.Pipeline ℕ) (line : ℕ) (stage : Stage) → (line == 0) ≡ false → Pends p → Pends (lines.freed p line stage)
pends-freed p line Oob other h = pends-removed p.oob.pending line other h
pends-freed p line Inband other h = h

pends-requested : (p : lines.Pipeline ℕ) (line : ℕ) (stage : Stage) (callback tag : ℕ) → Pends p → Pends (lines.requested p line stage callback tag)
pends-requested p line Oob callback tag h = h
pends-requested p line Inband callback tag h = h

pends-played : (p : lines.Pipeline ℕ) (stage : Stage) (line : ℕ) (at : lines.Installed ℕ) (handled : Bool) → elim stage as (λ v. Type 0) [ Oob ↦ (line == 0) ≡ false | Inband ↦ Unit {0} ] → Pends p → Pends (lines.played p stage line at handled)
pends-played p Oob line at handled other h = pends-removed p.oob.pending line other h
pends-played p Inband line at handled other h = h

pends-stalled : (p : lines.Pipeline ℕ) (stage : Stage) → Pends p → Pends (lines.stalled p stage)
pends-stalled p Oob h = h
pends-stalled p Inband h = h

pends-unstalled : (p : lines.Pipeline ℕ) (stage : Stage) → Pends p → Pends (lines.unstalled p stage)
pends-unstalled p Oob h = h
pends-unstalled p Inband h = h

-- a free isn't of line 0
free_other : (p : lines.Pipeline ℕ) (line : ℕ) (stage : Stage) → lines.free_refusal p line stage ≡ None → (line == 0) ≡ false
free_other p line stage none = by (line == 0) refl
  where
    by : (b : Bool) → (line == 0) ≡ b → b ≡ false
    by false is = refl
    by true is = absurd (never (grind (arith, nat_tests)))
      where
        never : line ≡ 0 → ⊥
        never zero_is = some-none _ (sym (sym none ∙ ap (λ (l : ℕ). lines.free_refusal p l stage) zero_is) ∙ refl)

held-home : (s : State) (number : ℕ) → IsHeld s → IsHeld (come_home s number)
held-home s number h = by (slice_get s.bank number)
  where
    by : (o : Option Banked) → IsHeld (option_map_or (with_banked s true number) o s)
    by None = h
    by (Some b) = h

held_waiting : KeptByWakes IsHeld
held_waiting = record {
  changed = λ s e h. h;
  waiting = λ s thread wait h. h;
  freed = λ s thread h due. h (omega (arith, due, fewer-cleared s.clock thread));
  queued = λ s ready h. h;
}

-- a deadline that isn't after now posts line 0, and another isn't due
held-timed : (s : State) (thread : ℕ) (until : Option ℕ) → IsHeld s → IsHeld (timer_call.posted_if (is_past s.clock.now until) (with_clock s (clocks.with_deadline s.clock thread until)))
held-timed s thread None h = λ due. h (omega (arith, due, fewer-cleared s.clock thread))
held-timed s thread (Some date) h = by (nat_le date s.clock.now) refl
  where
    by : (b : Bool) → nat_le date s.clock.now ≡ b → IsHeld (timer_call.posted_if b (with_clock s (clocks.with_deadline s.clock thread (Some date))))
    by true is due = posted-pends s.lines
    by false is due = h (omega (arith, due, dated_later s.clock thread date is))

held-post : (s : State) (stage : Stage) (line : ℕ) → IsHeld s → Leaves IsHeld (line_call.post s stage line)
held-post s stage line h = leaves-refused IsHeld (lines.post_refusal line) _ (λ passed due. pends-posted s.lines stage line (h due))

held-returned : (s : State) (o : Option (lines.Installed ℕ)) → IsHeld s → IsHeld (line_call.with_callback_back s o)
held-returned s None h = h
held-returned s (Some at) h = held-home s at.callback h

held-line : (s : State) (step : LineStep) → IsHeld s → Leaves IsHeld (line_effect s step)
held-line s (request line stage number tag) h = leaves-known IsHeld (slice_get s.bank number) _ (λ b here.
    leaves-refused IsHeld (lines.request_refusal s.lines line stage b.handler.kinds) _ (λ passed. leaves-unless IsHeld (not b.home) Busy
    (done (with_banked (with_lines s (lines.requested s.lines line stage number tag)) false number b)) (λ due. pends-requested s.lines line stage number tag (h due))))
held-line s (free line stage) h = leaves-refused IsHeld (lines.free_refusal s.lines line stage) _ (λ passed.
    held-returned (with_lines s (lines.freed s.lines line stage)) (lines.installed_at s.lines stage line) (λ due. pends-freed s.lines line stage (free_other s.lines line stage passed) (h due)))
held-line s (arrive line) h = leaves-refused IsHeld (lines.post_refusal line) _ (λ passed due. pends-arrived s.lines line (h due))
held-line s (post stage line) h = held-post s stage line h
held-line s (stall stage) h = λ due. pends-stalled s.lines stage (h due)
held-line s (unstall stage) h = λ due. pends-unstalled s.lines stage (h due)

held-alarmed : (s : State) → IsHeld (timer_call.alarmed s)
held-alarmed s = by (is_due s.clock) refl
  where
    by : (b : Bool) → is_due s.clock ≡ b → IsHeld (timer_call.posted_if b s)
    by true is due = posted-pends s.lines
    by false is due = absurd (omega (arith, due, not_due_zero s.clock is))

held-started : (s : State) (n date interval : ℕ) → IsHeld s → IsHeld (timer_call.with_running s n date interval)
held-started s n date interval h = by (nat_le date s.clock.now) refl
  where
    by : (b : Bool) → nat_le date s.clock.now ≡ b → IsHeld (timer_call.posted_if b (with_clock s (clocks.start s.clock n date interval)))
    by true is due = posted-pends s.lines
    by false is due = h (omega (arith, due, started_later s.clock n date interval is))

held-stop : (s : State) (n : ℕ) → IsHeld s → Leaves IsHeld (timer_call.stop_timer s n)
held-stop s n h = leaves-refused IsHeld (clocks.timer_refusal s.clock n) _ (λ passed due. h (omega (arith, due, fewer-stop s.clock n)))

held-placed : (s : State) (number tag : ℕ) (b : Banked) (place : Option ℕ) → IsHeld s → Leaves IsHeld (timer_call.place_timer s number tag b place)
held-placed s number tag b None h = tt
held-placed s number tag b (Some n) h = λ due. h (omega (arith, due, made_idle s.clock n number tag))

held-both : (b c : Bool) (e : Effect) → Leaves IsHeld e → Leaves IsHeld (unless ((b, Invalid) ∷ (c, Busy) ∷ []) e)
held-both true c e h = tt
held-both false true e h = tt
held-both false false e h = h

held-clock : (s : State) (step : ClockStep) → IsHeld s → Leaves IsHeld (clock_effect s step)
held-clock s (tick delta) h = leaves-refused IsHeld (clocks.advance_refusal s.clock delta) _ (λ passed. held-alarmed (timer_call.at_date (timer_call.paid s delta) delta))
held-clock s read_date h = h
held-clock s (new_timer number tag) h = leaves-known IsHeld (slice_get s.bank number) _ (λ b here.
    held-both (not (is_timer_allowed b.handler.kinds)) (not b.home) _ (held-placed s number tag b (clocks.free_place s.clock) h))
held-clock s (start_timer timer date interval) h = leaves-refused IsHeld (clocks.timer_refusal s.clock timer) _ (λ passed. held-started s timer date interval h)
held-clock s (stop_timer timer) h = held-stop s timer h
held-clock s (drop_timer timer) h = leaves-known IsHeld (clocks.timer_at s.clock timer) _ (λ t there.
    held-home (with_clock s (clocks.dropped s.clock timer)) t.callback (λ due. h (omega (arith, due, fewer-dropped s.clock timer))))
held-clock s (overruns timer) h = leaves-known IsHeld (clocks.timer_at s.clock timer) _ (λ t there. h)

held-task : (s : State) (caller : ℕ) (task : Task) → IsHeld s → Leaves IsHeld (performing s caller task).effect
held-task s caller (on_lines step) h = held-line s step h
held-task s caller (on_clock step) h = held-clock s step h
held-task s caller (on_threads step) h = leaves-threads IsHeld (λ s q h. h) s caller step h
held-task s caller (on_element step) h = leaves-touched IsHeld held_waiting s (Some caller) step h
held-task s caller (on_staged step_from) h = leaves-touched IsHeld held_waiting s (Some caller) (step_from caller (stage_of s.sched caller)) h
held-task s caller (raises n) h = leaves-raising IsHeld held_waiting s caller n h
held-task s caller (begins wants until) h = leaves-beginning IsHeld held_waiting held-timed s caller wants until h
held-task s caller (ends keep) h = leaves-finish IsHeld held_waiting s caller keep (λ x hx. hx) h

held-answer : (s : State) (caller : ℕ) (asked : Call) → IsHeld s → Leaves IsHeld (answer s caller asked)
held-answer s caller asked h = leaves-refused IsHeld (general_refusal s caller asked) (serve_call s caller asked) (λ passed. held-task s caller (task_of asked) h)

held-acted : (s : State) (line : ℕ) (action : Action) → IsHeld s → IsHeld (after_action s line action)
held-acted s line (PostSem sem) h = leaves-if_done IsHeld s _ h (leaves-touched IsHeld held_waiting s None (on_sem sem.0 put) h)
held-acted s line (PostFlags flags bits) h = leaves-if_done IsHeld s _ h (leaves-touched IsHeld held_waiting s None (on_flags flags.0 (group.post bits)) h)
held-acted s line Propagate h = leaves-if_done IsHeld s _ h (held-post s Inband line h)
held-acted s line (PostOob other) h = leaves-if_done IsHeld s _ h (held-post s Oob other.0 h)
held-acted s line (StopTimer timer) h = leaves-if_done IsHeld s _ h (held-stop s timer.0 h)

held-all_acted : (s : State) (line : ℕ) (actions : List Action) → IsHeld s → IsHeld (all_acted s line actions)
held-all_acted s line [] h = h
held-all_acted s line (action ∷ actions) h = held-all_acted (after_action s line action) line actions (held-acted s line action h)

held-answered : (s : State) (line : ℕ) (answer : Answer) → IsHeld s → IsHeld (after_answer s line answer)
held-answered s line answer h = by answer.handled
  where
    by : (b : Bool) → IsHeld (if b then all_acted s line answer.actions.items else s)
    by true = held-all_acted s line answer.actions.items h
    by false = h

-- while the clock's play goes on nothing is asked
abbrev HeldIn : Settling → Type 0
HeldIn at = at.in_clock ≡ false → IsHeld at.state

-- where no item is next
held_of : (at : Settling) → HeldIn at → item_next at ≡ None → IsHeld at.state
held_of at h none = by at.in_clock refl
  where
    by : (b : Bool) → at.in_clock ≡ b → IsHeld at.state
    by false is due = h is due
    by true is due =
        let nothing_due : next_due at.state.clock ≡ None = sym (ap (λ (b : Bool). if b then next_due at.state.clock else None) is) ∙ none in
        absurd (omega (arith, due, nothing_zero at.state.clock nothing_due))

-- after a play of the clock something is due, or the clock's play is over
held_over : (at : Settling) (stage : Stage) (p : Play × State) → is_of_clock p.0 ≡ true → HeldIn (going_on at stage p).1
held_over at stage p of_clock over due =
    absurd (omega (arith, due, not_due_zero p.1.clock (ap (λ (b : Bool). b && is_due p.1.clock) (sym of_clock) ∙ over)))

held_line : (at : Settling) (stage : Stage) (line : ℕ) → IsHeld at.state → HeldIn (going_on at stage (pending_played at.state stage line)).1
held_line at Inband line h over =
    let s = at.state in
    let here = unwrap_or (lines.installed_at s.lines Inband line) nothing in
    held-answered (with_lines s (lines.played s.lines Inband line here (answer_given s here).handled)) line (answer_given s here) h
held_line at Oob line h over = by (line == 0) refl over
  where
    s : State
    s = at.state

    here : lines.Installed ℕ
    here = unwrap_or (lines.installed_at s.lines Oob line) nothing

    by : (b : Bool) → (line == 0) ≡ b → HeldIn (going_on at Oob (if b then clock_played s else line_played s Oob line here)).1
    by true is over = held_over at Oob (clock_played s) refl over
    by false is over = held-answered (with_lines s (lines.played s.lines Oob line here (answer_given s here).handled)) line (answer_given s here)
        (λ due. pends-played s.lines Oob line here (answer_given s here).handled is (h due))

held_item : (at : Settling) (found : Item) → HeldIn (going_on at Oob (item_played at.state found)).1
held_item at (item.Timer id) = held_over at Oob (item_played at.state (item.Timer id)) refl
held_item at (item.Deadline thread) = held_over at Oob (item_played at.state (item.Deadline thread)) refl

next_held : (at mid : Settling) (one : Play) → HeldIn at → next_play at ≡ Some (one, mid) → HeldIn mid
next_held at mid one h next = one_played (λ (x : Play × Settling). HeldIn x.1) at mid one
    (λ found is. held_item at found)
    (λ stage line none is. held_line at stage line (held_of at h none)) next

along_held : (at last : Settling) (plays : List Play) → HeldIn at → Along next_play at plays last → HeldIn last
along_held at last [] h path = subst HeldIn (sym path) h
along_held at last (one ∷ plays) h (mid, next, path) = along_held mid last plays (next_held at mid one h next) path

follows_held : (old : State) (effect : Effect) (reply : Result Reply Refusal) (plays : List Play) (new : State) → IsHeld old → Leaves IsHeld effect → Follows old effect reply plays new → IsHeld new
follows_held old (Err refusal) reply plays new h left p = subst IsHeld (sym p.2) h
follows_held old (Ok (said, changed)) reply plays new h left (is, settles) =
    subst IsHeld (sym settles.left) (held_of settles.last (along_held (after_call changed) settles.last plays (λ over. left) settles.played) (none_played settles.last settles.ended).0)

run_held : (old : State) (entries : List Entry) (plays : List Play) (new : State) → IsHeld old → Run old entries plays new → IsHeld new
run_held old [] plays new h run = subst IsHeld (sym run.1) h
run_held old (e ∷ entries) plays new h (own, rest, mid, split, (counted_is, step), run) =
    run_held mid entries rest new (follows_held old (answer old e.caller.0 e.call) e.reply own mid h (held-answer old e.caller.0 e.call h) step) run

nothing_dated : (kind : ℕ → Item) (now n k : ℕ) → due_from kind now n (replicate {A = Option ℕ} k None) ≡ []
nothing_dated kind now n zero = refl
nothing_dated kind now n (suc k) = nothing_dated kind now (n + 1) k

nothing_at_first : (board : Board) (bank : List Handler) → IsHeld (opening board bank)
unfolding clocks.opening due_count
nothing_at_first board bank due = absurd (omega (arith, due, ap (λ (items : List (ℕ × Item)). length items) (nothing_dated deadline 0 0 (min board.threads thread_limit))))

pub due_pends : DueMeansPending
due_pends h legal due = run_held (opened_kernel h) h.entries h.plays h.state (nothing_at_first h.board h.bank) legal (due_one h.state.clock due)
