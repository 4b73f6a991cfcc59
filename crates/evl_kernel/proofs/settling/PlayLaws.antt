-- The records after one play, and that it leaves fewer plays to make.
use Rattle.std.proofs.Common.{◌≡◌, ◌≢◌, ℕ, ◌+◌, ◌-◌, ◌*◌, ◌<◌, ◌≤◌, ◌==◌, nat_lt, inl, inr, Bool, true, false, not, ◌&&◌, List, [], ◌∷◌, length, Option, Some, None, is_some, is_none, slice_get, if◌then◌else◌, refl, sym, ap, ◌∙◌, subst, arith}
use Rattle.std.specs.Option.{option_map}
use Rattle.std.proofs.lemmas.Bool.{false≢true}
use Rattle.std.proofs.lemmas.Bool.Decides.{nat_tests}
use Rattle.std.proofs.lemmas.Option.{slice_get-map, none-some, same_Some}
use Rattle.std.proofs.lemmas.List.Elements.{All-head, All-tail}
use Rattle.evl_base.specs.declared.stage.Stage.{Stage}
use Rattle.evl_base.specs.declared.stage.Stage.TheVariants.{Inband, Oob}
use Rattle.evl_base.specs.declared.refusal.Refusal.{Refusal}
use Rattle.evl_base.specs.declared.play.Play.{Play}
use Rattle.evl_base.specs.declared.play.Play.TheVariants as play
use Rattle.evl_pipeline.specs.declared.action.Action.{Action}
use Rattle.evl_pipeline.specs.declared.action.Action.TheVariants.{PostSem, PostFlags, Propagate, PostOob, StopTimer}
use Rattle.evl_pipeline.specs.declared.answer.Answer.{Answer}
use Rattle.evl_pipeline.specs.declared.fire.Fire.{Fire}
use Rattle.evl_pipeline.specs.declared.plan.Plan.{Plan}
use Rattle.evl_pipeline.specs.Counts.{one_more}
use Rattle.evl_pipeline.specs.Limits.{action_limit}
use Rattle.evl_pipeline.specs.NumberSet.{least}
use Rattle.evl_pipeline.specs.Plans.{PostsNoOob, answer_of, kind_of, is_allowed}
use Rattle.evl_pipeline.specs.Lines as lines
use Rattle.evl_pipeline.proofs.NumberSetLaws.{length-insert, length-remove_least}
use Rattle.evl_clock.specs.Clocks as clocks
use Rattle.evl_clock.specs.Dues.{due_count}
use Rattle.evl_clock.proofs.DueLaws.{fewer-stop, fewer-cleared}
use Rattle.evl_kernel.specs.declared.bank.Numbered.{Numbered}
use Rattle.evl_sched.specs.Picks.{is_anyone_eligible}
use Rattle.evl_kernel.specs.state.Limits.{inband_limit}
use Rattle.evl_kernel.specs.state.States.{State, Handler, date, with_lines, with_clock, plan_at}
use Rattle.evl_kernel.specs.calls.Effects.{done, if_done, refused_by}
use Rattle.evl_kernel.specs.state.Renamed.{named, renamed}
use Rattle.evl_kernel.specs.calls.Semaphores.{put}
use Rattle.evl_kernel.specs.calls.FlagGroups as group
use Rattle.evl_kernel.specs.calls.Elements.{ElementStep, on_sem, on_flags, touched}
use Rattle.evl_kernel.specs.calls.LineCalls as line_call
use Rattle.evl_kernel.specs.calls.TimerCalls as timer_call
use Rattle.evl_kernel.specs.settling.Settling.{after_action, all_acted, after_answer, deadline_left, answer_given, one_inband, going_on, is_clock, line_goes}
use Rattle.evl_kernel.specs.settling.Fires.{Called}
use Rattle.evl_kernel.specs.settling.Settled.{settling, left_after}
use Rattle.evl_kernel.specs.state.Callbacks.{AnswersByPlan, handlers_in}
use Rattle.evl_kernel.specs.state.Records.{RecordsView, state_of, whereabouts, number_of, banked, kinds_at, AreAllowed}
use Rattle.evl_kernel.proofs.state.RenamedLaws.{installed-renamed, played-renamed}
use Rattle.evl_kernel.proofs.waiting.StandingLaws.{OnlyOld, old-cleared, old-played}
use Rattle.evl_kernel.proofs.state.BankLaws.{place_told}
use Rattle.evl_kernel.proofs.calls.LeavesLaws.{leaves-if_done}
use Rattle.evl_kernel.proofs.waiting.WaitSteps.{KeptByWakes, kept-left, kept-deadline, leaves-touched}

-- how many out-of-band lines are pending
abbrev pub oob_pending : State → ℕ
oob_pending s = length s.lines.oob.pending

abbrev pub oob_line : lines.Pipeline ℕ → ℕ
oob_line p = length p.oob.pending

module _ where
  -- an event for the in-band stage adds no out-of-band one, and any event at most one
  posted-inband : (p : lines.Pipeline ℕ) (line : ℕ) → oob_line (lines.posted p Inband line) ≤ oob_line p
  posted-inband p line = by (lines.has_callback p Inband line)
    where
      by : (b : Bool) → oob_line (if b then lines.with_side p Inband (lines.logged p.inband line) else record p { spurious = Rattle.evl_pipeline.specs.Counts.count_raised p.spurious line }) ≤ oob_line p
      by true = omega arith
      by false = omega arith

  posted-oob : (p : lines.Pipeline ℕ) (line : ℕ) → oob_line (lines.posted p Oob line) ≤ oob_line p + 1
  posted-oob p line = by (lines.has_callback p Oob line)
    where
      by : (b : Bool) → oob_line (if b then lines.with_side p Oob (lines.logged p.oob line) else record p { spurious = Rattle.evl_pipeline.specs.Counts.count_raised p.spurious line }) ≤ oob_line p + 1
      by true = length-insert p.oob.pending line
      by false = omega arith

  done-post : (s : State) (stage : Stage) (line : ℕ) (more : ℕ) → oob_line (lines.posted s.lines stage line) ≤ oob_pending s + more → oob_pending (if_done s (line_call.post s stage line)) ≤ oob_pending s + more
  done-post s stage line more h = by (lines.post_refusal line)
    where
      by : (o : Option Refusal) → oob_pending (if_done s (refused_by o (done (with_lines s (lines.posted s.lines stage line))))) ≤ oob_pending s + more
      by None = h
      by (Some refusal) = omega arith

  -- no element has lines, and no wait that ends
  kept_pending : (n : ℕ) → KeptByWakes (λ x. oob_pending x ≡ n)
  kept_pending n = record { changed = λ s e h. h; waiting = λ s thread wait h. h; freed = λ s thread h. h; queued = λ s ready h. h }

  done-touched : (s : State) (by : Option ℕ) (step : ElementStep) → oob_pending (if_done s (touched s by step).effect) ≡ oob_pending s
  done-touched s by step =
      leaves-if_done (λ x. oob_pending x ≡ oob_pending s) s _ refl (leaves-touched (λ x. oob_pending x ≡ oob_pending s) (kept_pending (oob_pending s)) s by step refl)

  pub deadline-pending : (s : State) (thread : ℕ) → oob_pending (deadline_left s thread).1 ≡ oob_pending s
  deadline-pending s thread = kept-deadline (λ x. oob_pending x ≡ oob_pending s) (kept_pending (oob_pending s)) s thread refl

  -- a stop leaves the lines alone
  done-stop : (s : State) (n : ℕ) → oob_pending (if_done s (timer_call.stop_timer s n)) ≡ oob_pending s
  done-stop s n = by (clocks.timer_refusal s.clock n)
    where
      by : (o : Option Refusal) → oob_pending (if_done s (refused_by o (done (with_clock s (clocks.stop s.clock n))))) ≡ oob_pending s
      by None = refl
      by (Some refusal) = refl

-- an action adds at most one pending out-of-band line
acted-one : (s : State) (line : ℕ) (action : Action) → oob_pending (after_action s line action) ≤ oob_pending s + 1
acted-one s line (PostSem sem) = omega (arith, done-touched s None (on_sem sem.0 put))
acted-one s line (PostFlags flags bits) = omega (arith, done-touched s None (on_flags flags.0 (group.post bits)))
acted-one s line Propagate = done-post s Inband line 1 (omega (arith, posted-inband s.lines line))
acted-one s line (PostOob other) = done-post s Oob other.0 1 (posted-oob s.lines other.0)
acted-one s line (StopTimer timer) = omega (arith, done-stop s timer.0)

-- and none where it posts no out-of-band line
acted-none : (s : State) (line : ℕ) (action : Action) → (kind_of action == 8) ≡ false → oob_pending (after_action s line action) ≤ oob_pending s
acted-none s line (PostSem sem) other_kind = omega (arith, done-touched s None (on_sem sem.0 put))
acted-none s line (PostFlags flags bits) other_kind = omega (arith, done-touched s None (on_flags flags.0 (group.post bits)))
acted-none s line Propagate other_kind = omega (arith, done-post s Inband line 0 (omega (arith, posted-inband s.lines line)))
acted-none s line (PostOob other) other_kind = absurd (false≢true (sym other_kind))
acted-none s line (StopTimer timer) other_kind = omega (arith, done-stop s timer.0)

pub all_acted-many : (s : State) (line : ℕ) (actions : List Action) → oob_pending (all_acted s line actions) ≤ oob_pending s + length actions
all_acted-many s line [] = omega arith
all_acted-many s line (action ∷ actions) = omega (arith, all_acted-many (after_action s line action) line actions, acted-one s line action)

pub all_acted-none : (s : State) (line : ℕ) (actions : List Action) → PostsNoOob actions → oob_pending (all_acted s line actions) ≤ oob_pending s
all_acted-none s line [] none = omega arith
all_acted-none s line (action ∷ actions) none =
    let posts_other = λ (a : Action). (kind_of a == 8) ≡ false in
    omega (arith, all_acted-none (after_action s line action) line actions (All-tail posts_other action actions none), acted-none s line action (All-head posts_other action actions none))

pub answered-many : (s : State) (line : ℕ) (answer : Answer) → oob_pending (after_answer s line answer) ≤ oob_pending s + length answer.actions.items
answered-many s line answer = by answer.handled
  where
    by : (b : Bool) → oob_pending (if b then all_acted s line answer.actions.items else s) ≤ oob_pending s + length answer.actions.items
    by true = all_acted-many s line answer.actions.items
    by false = omega arith

pub answered-none : (s : State) (line : ℕ) (answer : Answer) → PostsNoOob answer.actions.items → oob_pending (after_answer s line answer) ≤ oob_pending s
answered-none s line answer none = by answer.handled
  where
    by : (b : Bool) → oob_pending (if b then all_acted s line answer.actions.items else s) ≤ oob_pending s
    by true = all_acted-none s line answer.actions.items none
    by false = omega arith

-- how many items are due
abbrev pub due_in : State → ℕ
due_in s = due_count s.clock

-- the end of a wait makes nothing due
kept_due : (n : ℕ) → KeptByWakes (λ x. due_in x ≤ n)
kept_due n = record {
  changed = λ s e h. h;
  waiting = λ s thread wait h. h;
  freed = λ s thread h. omega (arith, h, fewer-cleared s.clock thread);
  queued = λ s ready h. h;
}

pub deadline-due : (s : State) (thread : ℕ) → due_in (deadline_left s thread).1 ≤ due_count (clocks.with_deadline s.clock thread None)
deadline-due s thread = kept-left (λ x. due_in x ≤ due_count (clocks.with_deadline s.clock thread None)) (kept_due (due_count (clocks.with_deadline s.clock thread None))) s thread (omega arith)

-- no action makes anything due
pub acted-due : (s : State) (line : ℕ) (action : Action) → due_in (after_action s line action) ≤ due_in s
acted-due s line (PostSem sem) =
    leaves-if_done (λ x. due_in x ≤ due_in s) s _ (omega arith) (leaves-touched (λ x. due_in x ≤ due_in s) (kept_due (due_in s)) s None (on_sem sem.0 put) (omega arith))
acted-due s line (PostFlags flags bits) =
    leaves-if_done (λ x. due_in x ≤ due_in s) s _ (omega arith) (leaves-touched (λ x. due_in x ≤ due_in s) (kept_due (due_in s)) s None (on_flags flags.0 (group.post bits)) (omega arith))
acted-due s line Propagate = by (lines.post_refusal line)
  where
    by : (o : Option Refusal) → due_in (if_done s (refused_by o (done (with_lines s (lines.posted s.lines Inband line))))) ≤ due_in s
    by None = omega arith
    by (Some refusal) = omega arith
acted-due s line (PostOob other) = by (lines.post_refusal other.0)
  where
    by : (o : Option Refusal) → due_in (if_done s (refused_by o (done (with_lines s (lines.posted s.lines Oob other.0))))) ≤ due_in s
    by None = omega arith
    by (Some refusal) = omega arith
acted-due s line (StopTimer timer) = by (clocks.timer_refusal s.clock timer.0)
  where
    by : (o : Option Refusal) → due_in (if_done s (refused_by o (done (with_clock s (clocks.stop s.clock timer.0))))) ≤ due_in s
    by None = fewer-stop s.clock timer.0
    by (Some refusal) = omega arith

pub all_acted-due : (s : State) (line : ℕ) (actions : List Action) → due_in (all_acted s line actions) ≤ due_in s
all_acted-due s line [] = omega arith
all_acted-due s line (action ∷ actions) = omega (arith, all_acted-due (after_action s line action) line actions, acted-due s line action)

pub answered-due : (s : State) (line : ℕ) (answer : Answer) → due_in (after_answer s line answer) ≤ due_in s
answered-due s line answer = by answer.handled
  where
    by : (b : Bool) → due_in (if b then all_acted s line answer.actions.items else s) ≤ due_in s
    by true = all_acted-due s line answer.actions.items
    by false = omega arith

-- what the line that is next says of the logs
next_cases : {X : Type 0} (p : lines.Pipeline X) (eligible inband : Bool) (stage : Stage) (line : ℕ) → lines.next_line p eligible inband ≡ Some (stage, line)
    → elim stage as (λ v. Type 0) [ Oob ↦ least p.oob.pending ≡ Some line | Inband ↦ inband ≡ true ]
next_cases p eligible inband stage line h = by (lines.is_playable p Oob eligible inband) (lines.is_playable p Inband eligible inband) refl h
  where
    oob_next : (o : Option ℕ) → option_map {U = Stage × ℕ} (λ n. (Oob, n)) o ≡ Some (stage, line) → elim stage as (λ v. Type 0) [ Oob ↦ o ≡ Some line | Inband ↦ inband ≡ true ]
    oob_next None e = absurd (none-some _ e)
    oob_next (Some n) e = subst (λ (v : Stage × ℕ). elim v.0 as (λ w. Type 0) [ Oob ↦ Some n ≡ Some v.1 | Inband ↦ inband ≡ true ]) (same_Some _ _ e) refl

    last : (b : Bool) (c : Bool) → (b && c) ≡ true → c ≡ true
    last true c e = e
    last false c e = absurd (false≢true e)

    inband_next : inband ≡ true → (o : Option ℕ) → option_map {U = Stage × ℕ} (λ n. (Inband, n)) o ≡ Some (stage, line) → elim stage as (λ v. Type 0) [ Oob ↦ least p.oob.pending ≡ Some line | Inband ↦ inband ≡ true ]
    inband_next more None e = absurd (none-some _ e)
    inband_next more (Some n) e = subst (λ (v : Stage × ℕ). elim v.0 as (λ w. Type 0) [ Oob ↦ least p.oob.pending ≡ Some v.1 | Inband ↦ inband ≡ true ]) (same_Some _ _ e) more

    by : (b c : Bool) → lines.is_playable p Inband eligible inband ≡ c
        → (if b then option_map {U = Stage × ℕ} (λ n. (Oob, n)) (least p.oob.pending) else (if c then option_map {U = Stage × ℕ} (λ n. (Inband, n)) (least p.inband.pending) else None)) ≡ Some (stage, line)
        → elim stage as (λ v. Type 0) [ Oob ↦ least p.oob.pending ≡ Some line | Inband ↦ inband ≡ true ]
    by true c is e = oob_next (least p.oob.pending) e
    by false true is e = inband_next (all_last is) (least p.inband.pending) e
      where
        all_last : lines.is_playable p Inband eligible inband ≡ true → inband ≡ true
        all_last e = last (is_some (least p.inband.pending) && not p.inband.stalled && not p.oob.stalled && is_none (least p.oob.pending) && not eligible) inband e
    by false false is e = absurd (none-some _ e)

pub next-least : {X : Type 0} (p : lines.Pipeline X) (eligible inband : Bool) (line : ℕ) → lines.next_line p eligible inband ≡ Some (Oob, line) → least p.oob.pending ≡ Some line
next-least p eligible inband line h = next_cases p eligible inband Oob line h

pub next-allowed : {X : Type 0} (p : lines.Pipeline X) (eligible inband : Bool) (line : ℕ) → lines.next_line p eligible inband ≡ Some (Inband, line) → inband ≡ true
next-allowed p eligible inband line h = next_cases p eligible inband Inband line h

-- what a callback on a line answers is what the bank says of its number
pub plan_told : {C : Type 0} (r : RecordsView C) (n : ℕ) (h : Handler) → slice_get (handlers_in r.bank) n ≡ Some h → (plan_at (state_of r) n ≡ h.plan) × (kinds_at (state_of r) n ≡ h.kinds)
plan_told r n h is =
    let place = place_told r.bank n h is in (
      rw (slice_get-map banked r.bank n, place.1) (ap (λ (x : Handler). x.plan) place.2),
      rw (slice_get-map banked r.bank n, place.1) (ap (λ (x : Handler). x.kinds) place.2),
    )

module _ {C : Type 0} (declared : C → ℕ) (plan : C → Plan) where
  -- a callback on a line declares and answers what the bank says of its number
  pub out_told : (r : RecordsView C) (stage : Stage) (line : ℕ) (at : lines.Installed (Numbered C)) → AnswersByPlan declared plan (whereabouts r) → lines.installed_at r.lines stage line ≡ Some at
      → (plan_at (state_of r) at.callback.number ≡ plan at.callback.callback) × (kinds_at (state_of r) at.callback.number ≡ declared at.callback.callback)
  out_told r stage line at answers here = plan_told r at.callback.number (record { kinds = declared at.callback.callback; plan = plan at.callback.callback })
      (answers at.callback.number at.callback.callback (inr (inl (record { stage = stage; line = line; at = at; there = here; number_is = refl; callback_is = refl }))))

  -- the callbacks on the lines are allowed by what they declare themselves
  pub allowed_declared : (r : RecordsView C) → AnswersByPlan declared plan (whereabouts r) → AreAllowed (state_of r) → lines.AreAllowed (λ (n : Numbered C). declared n.callback) r.lines
  allowed_declared r answers allowed stage line at here =
      subst (λ (k : ℕ). is_allowed stage k ≡ true) (out_told r stage line at answers here).1
      (allowed stage line (named number_of at) (installed-renamed number_of r.lines stage line ∙ ap (option_map (named number_of)) here))

  not_clock_is : (stage : Stage) (line : ℕ) → line ≢ 0 → is_clock stage line ≡ false
  not_clock_is Inband line other = refl
  not_clock_is Oob line other = is_not (line == 0) refl
    where
      is_not : (b : Bool) → (line == 0) ≡ b → b ≡ false
      is_not true e = absurd (other (grind (arith, nat_tests)))
      is_not false e = refl

  -- after a line was played and its answer carried out
  -- what a play makes where this is the answer
  abbrev with_answer : RecordsView C → Stage → ℕ → lines.Installed (Numbered C) → Answer → Play × State
  with_answer r stage line at answer = (
    play.Line (record { 0 = line }) stage (one_more at.count) answer.handled,
    after_answer (with_lines (state_of r) (lines.played (renamed number_of r.lines) stage line (named number_of at) answer.handled)) line answer,
  )

  line_step : (r : RecordsView C) (inband : ℕ) (stage : Stage) (line : ℕ) (at : lines.Installed (Numbered C))
      → lines.next_line r.lines (is_anyone_eligible r.sched.sched) (nat_lt inband inband_limit) ≡ Some (stage, line) → line ≢ 0 → lines.installed_at r.lines stage line ≡ Some at
      → line_goes (settling r inband false) ≡ Some (going_on (settling r inband false) stage (with_answer r stage line at (answer_of (plan_at (state_of r) at.callback.number) (one_more at.count))))
  line_step r inband stage line at chosen other stands =
      rw (chosen, not_clock_is stage line other, installed-renamed number_of r.lines stage line, stands) refl

  pub line_next : (gives : C → Fire → Answer → Type 0) (r t : RecordsView C) (inband now : ℕ) (fire : Fire) (answer : Answer) (q : lines.Pipeline (Numbered C))
      → AnswersByPlan declared plan (whereabouts r)
      → (p : lines.PlaysLine (λ (n : Numbered C). declared n.callback) (λ (n : Numbered C). plan n.callback) (λ (n : Numbered C). gives n.callback) r.lines (is_anyone_eligible r.sched.sched) (nat_lt inband inband_limit) now fire answer q)
      → state_of t ≡ after_answer (state_of (record r { lines = q })) fire.line.0 answer
      → line_goes (settling r inband false) ≡ Some (play.Line fire.line fire.stage fire.count answer.handled, settling t (inband + one_inband fire.stage) false)
  line_next gives r t inband now fire answer q answers p after =
      let at = p.at in
      let line = p.line in
      let stage = p.stage in
      let told_plan = (out_told r stage line at answers p.stands).0 in
      let is_answer : answer_of (plan_at (state_of r) at.callback.number) (one_more at.count) ≡ answer = ap (λ (x : Plan). answer_of x (one_more at.count)) told_plan ∙ sym p.answered in
      let lines_are : renamed number_of q ≡ lines.played (renamed number_of r.lines) stage line (named number_of at) answer.handled =
      ap (renamed number_of) p.after ∙ played-renamed number_of r.lines stage line at answer.handled in
      let state_is : state_of t ≡ after_answer (with_lines (state_of r) (lines.played (renamed number_of r.lines) stage line (named number_of at) answer.handled)) line answer =
      after ∙ ((λ i. after_answer (with_lines (state_of r) (lines_are i)) (p.fire_is i).line.0 answer)) in
      let said : Some (going_on (settling r inband false) stage (with_answer r stage line at answer)) ≡ Some (play.Line fire.line fire.stage fire.count answer.handled, settling t (inband + one_inband fire.stage) false) =
      sym (λ i. Some (play.Line (p.fire_is i).line (p.fire_is i).stage (p.fire_is i).count answer.handled, record { state = state_is i; inband = inband + one_inband (p.fire_is i).stage; in_clock = false })) in
      line_step r inband stage line at p.chosen p.not_clock p.stands
      ∙ (ap (λ (a : Answer). Some (going_on (settling r inband false) stage (with_answer r stage line at a))) is_answer ∙ said)

  -- the callback that is there was called
  pub line_called : (gives : C → Fire → Answer → Type 0) (r : RecordsView C) (inband now : ℕ) (fire : Fire) (answer : Answer) (q : lines.Pipeline (Numbered C))
      → now ≡ date (state_of r) → AnswersByPlan declared plan (whereabouts r)
      → (p : lines.PlaysLine (λ (n : Numbered C). declared n.callback) (λ (n : Numbered C). plan n.callback) (λ (n : Numbered C). gives n.callback) r.lines (is_anyone_eligible r.sched.sched) (nat_lt inband inband_limit) now fire answer q)
      → Called gives (whereabouts r) (state_of r) (play.Line fire.line fire.stage fire.count answer.handled)
  line_called gives r inband now fire answer q at_date answers p =
      subst (λ (f : Fire). Called gives (whereabouts r) (state_of r) (play.Line f.line f.stage f.count answer.handled)) (sym p.fire_is) (
        named number_of p.at,
        installed-renamed number_of r.lines p.stage p.line ∙ ap (option_map (named number_of)) p.stands,
        record {
          callback = p.at.callback.callback;
          stands = inr (inl (record { stage = p.stage; line = p.line; at = p.at; there = p.stands; number_is = refl; callback_is = refl }));
          gave = subst (λ (f : Fire). gives p.at.callback.callback f (answer_given (state_of r) (named number_of p.at))) fire_is
              (subst (λ (a : Answer). gives p.at.callback.callback fire a) answer_is p.called);
        },
      )
    where
      fire_is : fire ≡ lines.fire_of (named number_of p.at) p.stage p.line (date (state_of r))
      fire_is = p.fire_is ∙ ap (λ (m : ℕ). lines.fire_of (named number_of p.at) p.stage p.line m) at_date

      answer_is : answer ≡ answer_given (state_of r) (named number_of p.at)
      answer_is = p.answered ∙ ap (λ (x : Plan). answer_of x (one_more p.at.count)) (sym (out_told r p.stage p.line p.at answers p.stands).0)

  pub clock_next : (r : RecordsView C) (inband : ℕ) (q : lines.Pipeline (Numbered C))
      → lines.next_line r.lines (is_anyone_eligible r.sched.sched) (nat_lt inband inband_limit) ≡ Some (Oob, 0) → q ≡ lines.with_side r.lines Oob (lines.cleared r.lines.oob 0)
      → line_goes (settling r inband false) ≡ Some (play.Clock, settling (record r { lines = q }) (inband + 0) true)
  clock_next r inband q chosen after = rw (chosen, after) refl

  pub none_next : (r : RecordsView C) (inband : ℕ) → lines.next_line r.lines (is_anyone_eligible r.sched.sched) (nat_lt inband inband_limit) ≡ None → line_goes (settling r inband false) ≡ None
  none_next r inband none = rw none refl

  -- fewer plays are left
  pub clock_nearer : (r : RecordsView C) (inband : ℕ) (q : lines.Pipeline (Numbered C))
      → lines.next_line r.lines (is_anyone_eligible r.sched.sched) (nat_lt inband inband_limit) ≡ Some (Oob, 0) → q ≡ lines.with_side r.lines Oob (lines.cleared r.lines.oob 0)
      → left_after (state_of (record r { lines = q })) (inband + 0) < left_after (state_of r) inband
  clock_nearer r inband q chosen after =
      let fewer = length-remove_least r.lines.oob.pending 0 (next-least r.lines (is_anyone_eligible r.sched.sched) (nat_lt inband inband_limit) 0 chosen) in
      rw after (omega (arith, fewer))

  below_64 : (inband : ℕ) → nat_lt inband inband_limit ≡ true → inband < inband_limit
  below_64 inband e = grind (arith, nat_tests)

  played_oob : (p : lines.Pipeline (Numbered C)) (stage : Stage) (line : ℕ) (at : lines.Installed (Numbered C)) (handled : Bool) (inband : ℕ) (e : Bool)
      → lines.next_line p e (nat_lt inband inband_limit) ≡ Some (stage, line) → (posts : ℕ) → posts ≤ action_limit → (stage ≡ Oob → posts ≡ 0)
      → (1 + action_limit) * (inband_limit - (inband + one_inband stage)) + (length (lines.played p stage line at handled).oob.pending + posts) < (1 + action_limit) * (inband_limit - inband) + length p.oob.pending
  played_oob p Oob line at handled inband e chosen posts few none =
      let fewer = length-remove_least p.oob.pending line (next-least p e (nat_lt inband inband_limit) line chosen) in omega (arith, fewer, none refl)
  played_oob p Inband line at handled inband e chosen posts few none =
      let below = below_64 inband (next-allowed p e (nat_lt inband inband_limit) line chosen) in omega (arith, below, few)

  pub line_nearer : (gives : C → Fire → Answer → Type 0) (r t : RecordsView C) (inband now : ℕ) (fire : Fire) (answer : Answer) (q : lines.Pipeline (Numbered C))
      → AnswersByPlan declared plan (whereabouts r) → AreAllowed (state_of r)
      → (p : lines.PlaysLine (λ (n : Numbered C). declared n.callback) (λ (n : Numbered C). plan n.callback) (λ (n : Numbered C). gives n.callback) r.lines (is_anyone_eligible r.sched.sched) (nat_lt inband inband_limit) now fire answer q)
      → (length answer.actions.items ≤ action_limit) × (fire.stage ≡ Oob → lines.AreAllowed (λ (n : Numbered C). declared n.callback) r.lines → PostsNoOob answer.actions.items)
      → state_of t ≡ after_answer (state_of (record r { lines = q })) fire.line.0 answer
      → left_after (state_of t) (inband + one_inband fire.stage) < left_after (state_of r) inband
  line_nearer gives r t inband now fire answer q answers allowed p bounded after = by p.stage (ap (λ (f : Fire). f.stage) p.fire_is) p.chosen p.after
    where
      mid : State
      mid = state_of (record r { lines = q })

      pending_is : length t.lines.oob.pending ≡ oob_pending (after_answer mid fire.line.0 answer)
      pending_is = ap oob_pending after

      due_less : due_in (state_of t) ≤ due_in (state_of r)
      due_less = omega (arith, ap due_in after, answered-due mid fire.line.0 answer)

      by : (v : Stage) → fire.stage ≡ v → lines.next_line r.lines (is_anyone_eligible r.sched.sched) (nat_lt inband inband_limit) ≡ Some (v, p.line) → q ≡ lines.played r.lines v p.line p.at answer.handled
          → left_after (state_of t) (inband + one_inband fire.stage) < left_after (state_of r) inband
      by Oob is chosen played_is =
          let none = answered-none mid fire.line.0 answer (bounded.1 is (allowed_declared r answers allowed)) in
          let fewer = played_oob r.lines Oob p.line p.at answer.handled inband (is_anyone_eligible r.sched.sched) chosen 0 (omega arith) (λ _. refl) in
          let same : length q.oob.pending ≡ length (lines.played r.lines Oob p.line p.at answer.handled).oob.pending = ap (λ (x : lines.Pipeline (Numbered C)). length x.oob.pending) played_is in
          rw is (omega (arith, none, fewer, same, pending_is, due_less))
      by Inband is chosen played_is =
          let many = answered-many mid fire.line.0 answer in
          let fewer = played_oob r.lines Inband p.line p.at answer.handled inband (is_anyone_eligible r.sched.sched) chosen 4 (omega arith) (λ e. absurd (other e)) in
          let same : length q.oob.pending ≡ length (lines.played r.lines Inband p.line p.at answer.handled).oob.pending = ap (λ (x : lines.Pipeline (Numbered C)). length x.oob.pending) played_is in
          rw is (omega (arith, many, fewer, same, pending_is, bounded.0, due_less))
        where
          other : Inband ≡ Oob → ⊥
          other e = cc

-- nothing else is on the lines after a play
pub clock_old : {C : Type 0} (r : RecordsView C) (q : lines.Pipeline (Numbered C)) → q ≡ lines.with_side r.lines Oob (lines.cleared r.lines.oob 0) → OnlyOld r.lines q
clock_old r q after = subst (OnlyOld r.lines) (sym after) (old-cleared r.lines Oob 0)

pub line_old : {C : Type 0} (declared : C → ℕ) (plan : C → Plan) (gives : C → Fire → Answer → Type 0) (r : RecordsView C) (q : lines.Pipeline (Numbered C)) (inband now : ℕ) (fire : Fire) (answer : Answer)
    → lines.PlaysLine (λ (n : Numbered C). declared n.callback) (λ (n : Numbered C). plan n.callback) (λ (n : Numbered C). gives n.callback) r.lines (is_anyone_eligible r.sched.sched) (nat_lt inband inband_limit) now fire answer q → OnlyOld r.lines q
line_old declared plan gives r q inband now fire answer p = subst (OnlyOld r.lines) (sym p.after) (old-played r.lines p.stage p.line p.at answer.handled p.stands)
