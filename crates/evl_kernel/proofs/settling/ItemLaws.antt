-- The records after the play of a due item, and that it leaves fewer plays to make.
use Rattle.std.proofs.Common.{◌≡◌, ℕ, ◌+◌, ◌<◌, ◌≤◌, inr, Bool, true, false, List, [], Option, Some, None, Err, refl, sym, ap, ◌∙◌, subst, arith}
use Rattle.std.specs.Option.{option_map, option_map_or}
use Rattle.std.proofs.lemmas.Option.{none-some, same_Some}
use Rattle.evl_base.specs.declared.numbers.ThreadId.{ThreadId}
use Rattle.evl_base.specs.declared.numbers.TimerId.{TimerId}
use Rattle.evl_base.specs.declared.stage.Stage.TheVariants.{Oob}
use Rattle.evl_base.specs.declared.refusal.Refusal.TheVariants.{Invalid}
use Rattle.evl_base.specs.declared.reply.Reply.TheVariants.{TimedOut}
use Rattle.evl_base.specs.declared.play.Play.{Play}
use Rattle.evl_base.specs.declared.play.Play.TheVariants as play
use Rattle.evl_pipeline.specs.declared.answer.Answer.{Answer}
use Rattle.evl_pipeline.specs.declared.fire.Fire.{Fire}
use Rattle.evl_pipeline.specs.declared.plan.Plan.{Plan}
use Rattle.evl_pipeline.specs.Counts.{one_more}
use Rattle.evl_pipeline.specs.Plans.{PostsNoOob, answer_of}
use Rattle.evl_clock.specs.declared.due.Item.{Item}
use Rattle.evl_clock.specs.declared.due.Item.TheVariants as item
use Rattle.evl_clock.specs.declared.timer.Timer.{Timer}
use Rattle.evl_clock.specs.Timers.{is_timer_allowed, missed_periods}
use Rattle.evl_clock.specs.Clocks.{Clock, timer_at, with_deadline}
use Rattle.evl_clock.specs.ClockSteps as steps
use Rattle.evl_clock.specs.ClockSteps.{Fires, fired}
use Rattle.evl_clock.specs.Dues.{timer, deadline, next_due, due_count}
use Rattle.evl_kernel.specs.declared.bank.Numbered.{Numbered}
use Rattle.evl_kernel.specs.state.States.{State, with_clock, plan_at}
use Rattle.evl_kernel.specs.state.Renamed.{named_timer, renamed_clock}
use Rattle.evl_clock.proofs.DueLaws.{fewer-cleared}
use Rattle.evl_kernel.specs.declared.waits.Wait.{Wait}
use Rattle.evl_kernel.specs.calls.Elements.{Told, touched}
use Rattle.evl_kernel.specs.waiting.Waits.{wait_at, woken}
use Rattle.evl_kernel.specs.waiting.Endings.{drop_step}
use Rattle.evl_kernel.specs.settling.Settling.{Left, left_after, deadline_left, after_answer, timer_given, item_played, due_played, going_on, is_of_clock, item_next, item_before, line_next, next_of, line_goes, next_play, one_inband}
use Rattle.evl_kernel.specs.settling.Fires.{Called}
use Rattle.evl_kernel.specs.settling.Settled.{settling, stage_of, waiting}
use Rattle.evl_kernel.specs.state.Callbacks.{AnswersByPlan}
use Rattle.evl_kernel.specs.state.Records.{RecordsView, state_of, whereabouts, number_of, kinds_at, AreTimersAllowed}
use Rattle.evl_kernel.proofs.settling.ClockLaws.{timer-renamed, next-renamed, count-renamed, fired-renamed}
use Rattle.evl_kernel.proofs.settling.PlayLaws.{plan_told, oob_pending, due_in, answered-none, answered-due, deadline-due, deadline-pending}
use Rattle.evl_kernel.proofs.state.SetLaws.{set_twice}

module _ {C : Type 0} (declared : C → ℕ) (plan : C → Plan) where
  -- a callback in a timer declares and answers what the bank says of its number
  timed_told : (r : RecordsView C) (n : ℕ) (at : Timer (Numbered C)) → AnswersByPlan declared plan (whereabouts r) → timer_at r.clock n ≡ Some at
      → (plan_at (state_of r) at.callback.number ≡ plan at.callback.callback) × (kinds_at (state_of r) at.callback.number ≡ declared at.callback.callback)
  timed_told r n at answers here = plan_told r at.callback.number (record { kinds = declared at.callback.callback; plan = plan at.callback.callback })
      (answers at.callback.number at.callback.callback (inr (inr (record { timer = n; at = at; there = here; number_is = refl; callback_is = refl }))))

  -- the callbacks of the timers are allowed by what they declare themselves
  pub timers_declared : (r : RecordsView C) → AnswersByPlan declared plan (whereabouts r) → AreTimersAllowed (state_of r) → steps.AreAllowed (λ (n : Numbered C). declared n.callback) r.clock
  timers_declared r answers allowed n at here =
      subst (λ (k : ℕ). is_timer_allowed k ≡ true) (timed_told r n at answers here).1
      (allowed n (named_timer number_of at) (timer-renamed number_of r.clock n ∙ ap (option_map (named_timer number_of)) here))

  -- what a play makes where this is the answer
  abbrev with_answer : RecordsView C → ℕ → Timer (Numbered C) → Answer → Play × State
  with_answer r n at answer = (
    play.Timer (record { 0 = n }) (one_more at.count) (missed_periods r.clock.now at.state) answer.handled,
    after_answer (with_clock (state_of r) (fired (renamed_clock number_of r.clock) n (named_timer number_of at))) 0 answer,
  )

  timer_step : (r : RecordsView C) (n : ℕ) (at : Timer (Numbered C)) → next_due r.clock ≡ Some (timer n) → timer_at r.clock n ≡ Some at
      → due_played (state_of r) ≡ Some (with_answer r n at (answer_of (plan_at (state_of r) at.callback.number) (one_more at.count)))
  timer_step r n at next there = rw (next-renamed number_of r.clock, next, timer-renamed number_of r.clock n, there) refl

  abbrev Falls : (C → Fire → Answer → Type 0) → Clock (Numbered C) → ℕ → Fire → ℕ → Answer → Clock (Numbered C) → Type 0
  Falls gives old n fire misses answer new = Fires (λ (n : Numbered C). declared n.callback) (λ (n : Numbered C). plan n.callback) (λ (n : Numbered C). gives n.callback) old n fire misses answer new

  pub timer_next : (gives : C → Fire → Answer → Type 0) (r t : RecordsView C) (id : TimerId) (fire : Fire) (misses : ℕ) (answer : Answer) (d : Clock (Numbered C))
      → AnswersByPlan declared plan (whereabouts r) → next_due r.clock ≡ Some (timer id.0) → Falls gives r.clock id.0 fire misses answer d
      → state_of t ≡ after_answer (state_of (record r { clock = d })) fire.line.0 answer
      → due_played (state_of r) ≡ Some (play.Timer id fire.count misses answer.handled, state_of t)
  timer_next gives r t id fire misses answer d answers next f after =
      let at = f.at in
      let fell = f.has_fired in
      let told_plan = (timed_told r id.0 at answers f.stands).0 in
      let is_answer : answer_of (plan_at (state_of r) at.callback.number) (one_more at.count) ≡ answer = ap (λ (x : Plan). answer_of x (one_more at.count)) told_plan ∙ sym fell.answered in
      let clock_is : renamed_clock number_of d ≡ fired (renamed_clock number_of r.clock) id.0 (named_timer number_of at) = ap (renamed_clock number_of) f.after ∙ fired-renamed number_of r.clock id.0 at in
      let state_is : state_of t ≡ after_answer (with_clock (state_of r) (fired (renamed_clock number_of r.clock) id.0 (named_timer number_of at))) 0 answer =
      after ∙ ((λ i. after_answer (with_clock (state_of r) (clock_is i)) (fell.fire_is i).line.0 answer)) in
      let said : Some (with_answer r id.0 at answer) ≡ Some (play.Timer id fire.count misses answer.handled, state_of t) =
      sym (λ i. Some (play.Timer id (fell.fire_is i).count (fell.misses_is i) answer.handled, state_is i)) in
      timer_step r id.0 at next f.stands ∙ (ap (λ (a : Answer). Some (with_answer r id.0 at a)) is_answer ∙ said)

  pub timer_called : (gives : C → Fire → Answer → Type 0) (r : RecordsView C) (id : TimerId) (fire : Fire) (misses : ℕ) (answer : Answer) (d : Clock (Numbered C))
      → AnswersByPlan declared plan (whereabouts r) → Falls gives r.clock id.0 fire misses answer d
      → Called gives (whereabouts r) (state_of r) (play.Timer id fire.count misses answer.handled)
  timer_called gives r id fire misses answer d answers f = (
    named_timer number_of f.at,
    timer-renamed number_of r.clock id.0 ∙ ap (option_map (named_timer number_of)) f.stands,
    record {
      callback = f.at.callback.callback;
      stands = inr (inr (record { timer = id.0; at = f.at; there = f.stands; number_is = refl; callback_is = refl }));
      gave = subst (λ (x : Fire). gives f.at.callback.callback x (timer_given (state_of r) (named_timer number_of f.at))) f.has_fired.fire_is
          (subst (λ (a : Answer). gives f.at.callback.callback fire a) answer_is f.has_fired.called);
    },
  )
    where
      answer_is : answer ≡ timer_given (state_of r) (named_timer number_of f.at)
      answer_is = f.has_fired.answered ∙ ap (λ (x : Plan). answer_of x (one_more f.at.count)) (sym (timed_told r id.0 f.at answers f.stands).0)

  pub timer_nearer : (r t : RecordsView C) (fire : Fire) (answer : Answer) (d : Clock (Numbered C)) → AnswersByPlan declared plan (whereabouts r) → AreTimersAllowed (state_of r)
      → due_count d + 1 ≡ due_count r.clock → (steps.AreAllowed (λ (n : Numbered C). declared n.callback) r.clock → PostsNoOob answer.actions.items)
      → state_of t ≡ after_answer (state_of (record r { clock = d })) fire.line.0 answer → waiting (state_of t) < waiting (state_of r)
  timer_nearer r t fire answer d answers allowed fewer bounded after =
      let mid = state_of (record r { clock = d }) in
      omega (
        arith,
        ap oob_pending after,
        ap due_in after,
        answered-none mid fire.line.0 answer (bounded (timers_declared r answers allowed)),
        answered-due mid fire.line.0 answer,
        count-renamed number_of d,
        count-renamed number_of r.clock,
        fewer,
      )

-- a deadline that was taken away is taken away once more as its thread's wait ends
pub woken_once : (s : State) (thread : ℕ) → deadline_left (with_clock s (with_deadline s.clock thread None)) thread ≡ deadline_left s thread
woken_once s thread = ap (λ (dates : List (Option ℕ)). left_after (ended dates) (told (ended dates) (wait_at s thread))) (set_twice s.clock.deadlines thread None None)
  where
    ended : List (Option ℕ) → State
    ended dates = with_clock (woken s thread TimedOut) (record s.clock { deadlines = dates })

    told : State → Option Wait → Told
    told x o = option_map_or (λ (w : Wait). touched x None (drop_step thread w.on)) o (record { touches = []; effect = Err Invalid })

module _ {C : Type 0} (r t : RecordsView C) (thread : ThreadId) (d : Clock (Numbered C)) (after : d ≡ with_deadline r.clock thread.0 None) (ended : state_of t ≡ (deadline_left (state_of (record r { clock = d })) thread.0).1) where
  ended_is : state_of t ≡ (deadline_left (state_of r) thread.0).1
  ended_is =
      ended ∙ (ap (λ (c : Clock (Numbered C)). (deadline_left (state_of (record r { clock = c })) thread.0).1) after
      ∙ ap (λ (x : Left). x.1) (woken_once (state_of r) thread.0))

  pub deadline_next : next_due r.clock ≡ Some (deadline thread.0) → due_played (state_of r) ≡ Some (play.Deadline thread, state_of t)
  deadline_next next = ap (option_map (item_played (state_of r))) (next-renamed number_of r.clock ∙ next) ∙ ap (λ (x : State). Some (play.Deadline thread, x)) (sym ended_is)

  pub deadline_nearer : due_count d + 1 ≡ due_count r.clock → waiting (state_of t) < waiting (state_of r)
  deadline_nearer fewer =
      let mid = state_of (record r { clock = d }) in
      omega (
        arith,
        ap oob_pending ended,
        ap due_in ended,
        deadline-pending mid thread.0,
        deadline-due mid thread.0,
        fewer-cleared mid.clock thread.0,
        count-renamed number_of d,
        count-renamed number_of r.clock,
        fewer,
      )

pub nothing_due : {C : Type 0} (r : RecordsView C) → next_due r.clock ≡ None → next_due (state_of r).clock ≡ None
nothing_due r none = next-renamed number_of r.clock ∙ none

-- the play of an item is the clock's, and no in-band one
record OfClock (one : Play) : Type 0 where
  of_clock : is_of_clock one ≡ true
  stage : stage_of one ≡ Oob

item_of_clock : (s : State) (one : Item) → OfClock (item_played s one).0
item_of_clock s (item.Timer id) = record { of_clock = refl; stage = refl }
item_of_clock s (item.Deadline thread) = record { of_clock = refl; stage = refl }

module _ {C : Type 0} where
  -- after a play of the clock a due item is played
  pub item_goes : (r t : RecordsView C) (inband : ℕ) (one : Play) → due_played (state_of r) ≡ Some (one, state_of t)
      → next_play (settling r inband true) ≡ Some (one, settling t (inband + one_inband (stage_of one)) (is_of_clock one))
  unfolding next_play
  item_goes r t inband one played = by (next_due (state_of r).clock) refl played
    where
      by : (o : Option Item) → next_due (state_of r).clock ≡ o → option_map (item_played (state_of r)) o ≡ Some (one, state_of t)
          → item_before (settling r inband true) (item_next (settling r inband true)) ≡ Some (one, settling t (inband + one_inband (stage_of one)) (is_of_clock one))
      by None is e = absurd (none-some _ e)
      by (Some found) is e =
          let same : ◌≡◌ {A = Play × State} (item_played (state_of r) found) (one, state_of t) = same_Some _ _ e in
          let kind = subst OfClock (ap (λ (x : Play × State). x.0) same) (item_of_clock (state_of r) found) in
          rw (is, kind.stage) (ap (λ (x : Play × State). Some (going_on (settling r inband true) Oob x)) same)

  -- else a line
  pub line_behind : (r : RecordsView C) (inband : ℕ) (of_clock : Bool) → (of_clock ≡ true → next_due (state_of r).clock ≡ None) → next_play (settling r inband of_clock) ≡ line_goes (settling r inband false)
  unfolding next_play
  line_behind r inband of_clock none = by of_clock none
    where
      same : (b : Bool) (o : Option (_ × ℕ)) → next_of (record { state = state_of r; inband = inband; in_clock = b }) o ≡ next_of (settling r inband false) o
      same b None = refl
      same b (Some x) = refl

      by : (b : Bool) → (b ≡ true → next_due (state_of r).clock ≡ None) → item_before (settling r inband b) (item_next (settling r inband b)) ≡ line_goes (settling r inband false)
      by false h = refl
      by true h = rw (h refl) (same false (line_next (settling r inband false)))
