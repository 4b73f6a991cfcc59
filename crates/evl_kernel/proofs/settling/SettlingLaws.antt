-- A settling goes on by one play at a time, and ends where nothing is playable.
use Rattle.std.proofs.Common.{◌≡◌, ℕ, ◌+◌, ◌≤◌, nat_lt, Bool, true, false, not, ◌&&◌, List, [], ◌∷◌, ◌++◌, length, Option, Some, None, is_some, is_none, if◌then◌else◌, refl, sym, ap, ◌∙◌, subst, append_assoc, arith, length-append}
use Rattle.std.proofs.lemmas.List.{append-nil}
use Rattle.std.specs.Option.{option_map}
use Rattle.evl_base.specs.declared.stage.Stage.{Stage}
use Rattle.evl_base.specs.declared.stage.Stage.TheVariants.{Inband, Oob}
use Rattle.evl_base.specs.declared.play.Play.{Play}
use Rattle.evl_base.specs.declared.play.Play.TheVariants.{Clock, Timer, Deadline, Line}
use Rattle.evl_pipeline.specs.declared.answer.Answer.{Answer}
use Rattle.evl_pipeline.specs.declared.fire.Fire.{Fire}
use Rattle.evl_pipeline.specs.declared.plan.Plan.{Plan}
use Rattle.evl_pipeline.specs.declared.ran.Ran.{Ran}
use Rattle.evl_pipeline.specs.declared.ran.Ran.TheVariants as ran
use Rattle.evl_pipeline.specs.Limits.{line_count}
use Rattle.evl_pipeline.specs.NumberSet.{least}
use Rattle.evl_pipeline.specs.Lines as lines
use Rattle.evl_pipeline.proofs.NumberSetLaws.{length-rises}
use Rattle.evl_sched.specs.Picks.{is_anyone_eligible}
use Rattle.evl_kernel.specs.state.Limits.{inband_limit, play_limit}
use Rattle.evl_kernel.specs.settling.Paths.{Along}
use Rattle.evl_kernel.specs.state.States.{State}
use Rattle.evl_kernel.specs.state.Callbacks.{Whereabouts, BringsNone}
use Rattle.evl_kernel.specs.settling.Fires.{Called, AllCalled}
use Rattle.evl_kernel.specs.settling.Settling.{Settling, Settles, Plays, next_play, after_call}
use Rattle.evl_kernel.specs.settling.Settled.{Appends, settling, left_after}
use Rattle.evl_kernel.specs.declared.bank.Numbered.{Numbered}
use Rattle.evl_kernel.specs.state.Records.{RecordsView, state_of, number_of}
use Rattle.evl_clock.specs.Clocks.{IsSoundClock}
use Rattle.evl_clock.proofs.DueLaws.{few}
use Rattle.std.proofs.lemmas.Bool.{false≢true}
use Rattle.std.proofs.lemmas.Option.{same_Some}
use Rattle.evl_kernel.proofs.settling.ClockLaws.{count-renamed}
use Rattle.evl_kernel.proofs.settling.PlayLaws.{none_next}
use Rattle.evl_kernel.proofs.settling.ItemLaws.{line_behind}

-- a path goes on by one
pub along_more : {S P : Type 0} (next : S → Option (P × S)) (at : S) (outs : List P) (mid : S) (one : P) (end : S)
    → Along next at outs mid → next mid ≡ Some (one, end) → Along next at (outs ++ one ∷ []) end
along_more {S} next at [] mid one end same step = (end, subst (λ (s : S). next s ≡ Some (one, end)) same step, refl)
along_more next at (first ∷ outs) mid one end (after, here, others) step = (after, here, along_more next after outs mid one end others step)

-- while the out-of-band stage is stalled, nothing is playable
stalled_next : {X : Type 0} (p : lines.Pipeline X) (eligible inband : Bool) → p.oob.stalled ≡ true → lines.next_line p eligible inband ≡ None
stalled_next p eligible inband stalled = rw stalled (by (least p.oob.pending) (is_some (least p.inband.pending)) p.inband.stalled)
  where
    by : (o : Option ℕ) (there held : Bool)
        → (if is_some o && not true then option_map {U = Stage × ℕ} (λ line. (Oob, line)) o
        else (if there && not held && not true && is_none o && not eligible && inband then option_map {U = Stage × ℕ} (λ line. (Inband, line)) (least p.inband.pending) else None)) ≡ None
    by None false held = refl
    by None true true = refl
    by None true false = refl
    by (Some n) false held = refl
    by (Some n) true true = refl
    by (Some n) true false = refl

-- where an out-of-band line pends, it makes no difference whether a thread holds in-band lines back
pub oob_goes_first : {X : Type 0} (p : lines.Pipeline X) (eligible inband : Bool) → is_none (least p.oob.pending) ≡ false → lines.next_line p false inband ≡ lines.next_line p eligible inband
oob_goes_first p eligible inband pends = by (least p.oob.pending) (is_some (least p.inband.pending)) p.oob.stalled p.inband.stalled pends
  where
    by : (o : Option ℕ) (there held other : Bool) → is_none o ≡ false
        → (if is_some o && not held then option_map {U = Stage × ℕ} (λ line. (Oob, line)) o
        else (if there && not other && not held && is_none o && not false && inband then option_map {U = Stage × ℕ} (λ line. (Inband, line)) (least p.inband.pending) else None))
        ≡ (if is_some o && not held then option_map {U = Stage × ℕ} (λ line. (Oob, line)) o
        else (if there && not other && not held && is_none o && not eligible && inband then option_map {U = Stage × ℕ} (λ line. (Inband, line)) (least p.inband.pending) else None))
    by None there held other pends = absurd (false≢true (sym pends))
    by (Some n) there false other pends = refl
    by (Some n) false true other pends = refl
    by (Some n) true true false pends = refl
    by (Some n) true true true pends = refl

-- what is played depends on who holds back only by which line is next
pub plays_as : {C : Type 0} (declared : C → ℕ) (plan : C → Plan) (gives : C → Fire → Answer → Type 0) (r : RecordsView C) (held : Bool) (inband now : ℕ) (ran : Option Ran) (q : lines.Pipeline (Numbered C))
    → ((more : Bool) → lines.next_line r.lines held more ≡ lines.next_line r.lines (is_anyone_eligible r.sched.sched) more)
    → lines.Plays (λ (n : Numbered C). declared n.callback) (λ (n : Numbered C). plan n.callback) (λ (n : Numbered C). gives n.callback) r.lines held (nat_lt inband inband_limit) now ran q → lines.Plays (λ (n : Numbered C). declared n.callback) (λ (n : Numbered C). plan n.callback) (λ (n : Numbered C). gives n.callback) r.lines (is_anyone_eligible r.sched.sched) (nat_lt inband inband_limit) now ran q
plays_as declared plan gives r held inband now None q same (none, kept) = (sym (same (nat_lt inband inband_limit)) ∙ none, kept)
plays_as declared plan gives r held inband now (Some ran.Clock) q same (clock, after) = (sym (same (nat_lt inband inband_limit)) ∙ clock, after)
plays_as declared plan gives r held inband now (Some (ran.Line fire answer)) q same so = record {
  stage = so.stage;
  line = so.line;
  chosen = sym (same (nat_lt inband inband_limit)) ∙ so.chosen;
  not_clock = so.not_clock;
  below = so.below;
  at = so.at;
  stands = so.stands;
  fire_is = so.fire_is;
  called = so.called;
  answered = so.answered;
  after = so.after;
  sound = so.sound;
}

-- where nothing pends, nothing is playable
pub idle_next : {X : Type 0} (p : lines.Pipeline X) (eligible inband : Bool) → (is_none (least p.oob.pending) && is_none (least p.inband.pending)) ≡ true → lines.next_line p eligible inband ≡ None
idle_next p eligible inband idle = by (least p.oob.pending) (least p.inband.pending) p.oob.stalled p.inband.stalled idle
  where
    by : (o i : Option ℕ) (held other : Bool) → (is_none o && is_none i) ≡ true
        → (if is_some o && not held then option_map {U = Stage × ℕ} (λ line. (Oob, line)) o
        else (if is_some i && not other && not held && is_none o && not eligible && inband then option_map {U = Stage × ℕ} (λ line. (Inband, line)) i else None)) ≡ None
    by None None held other idle = refl
    by None (Some n) held other idle = absurd (false≢true idle)
    by (Some n) i held other idle = absurd (false≢true idle)

module _ {C : Type 0} (gives : C → Fire → Answer → Type 0) where
  -- what was called before stood there already
  pub called_before : (v w : Whereabouts C) → BringsNone w v → (s : State) (one : Play) → Called gives v s one → Called gives w s one
  called_before v w brings s (Line line stage count handled) (at, there, gave) =
      (at, there, record { callback = gave.callback; stands = brings at.callback gave.callback gave.stands; gave = gave.gave })
  called_before v w brings s Clock called = tt
  called_before v w brings s (Timer timer count missed handled) (at, there, gave) =
      (at, there, record { callback = gave.callback; stands = brings at.callback gave.callback gave.stands; gave = gave.gave })
  called_before v w brings s (Deadline thread) called = tt

  all_called_before : (v w : Whereabouts C) → BringsNone w v → (at : Settling) (plays : List Play) → AllCalled gives v at plays → AllCalled gives w at plays
  all_called_before v w brings at [] called = tt
  all_called_before v w brings at (one ∷ others) (its, more) =
      (called_before v w brings at.state one its, λ mid is. all_called_before v w brings mid others (more mid is))

  pub appends_before : (v w : Whereabouts C) → BringsNone w v → (before after : List Play) (old new : State) → Appends gives v before old after new → Appends gives w before old after new
  appends_before v w brings before after old new so = record {
    made = so.made;
    appended = so.appended;
    settles = so.settles;
    few = so.few;
    called = all_called_before v w brings (after_call old) so.made so.called;
  }

module _ {C : Type 0} (gives : C → Fire → Answer → Type 0) (w : Whereabouts C) where
  -- the plays that were appended lead from one to the other, and each of a line called its callback
  pub record PlaysOn (start : Settling) (before : List Play) (end : Settling) (after : List Play) : Type 0 where
    pub made : List Play
    pub appended : after ≡ before ++ made
    pub path : Plays start made end
    pub called : AllCalled gives w start made

  pub plays_on-none : (start : Settling) (before : List Play) → PlaysOn start before start before
  plays_on-none start before = record { made = []; appended = sym (append-nil before); path = refl; called = tt }

  all_called-more : (start : Settling) (made : List Play) (mid : Settling) (one : Play) → Plays start made mid → AllCalled gives w start made → Called gives w mid.state one
      → AllCalled gives w start (made ++ one ∷ [])
  all_called-more start [] mid one path called now = (subst (λ (x : Settling). Called gives w x.state one) path now, λ next is. tt)
  all_called-more start (first ∷ made) mid one (after, here, path) (its, others) now =
      (its, λ next is. all_called-more next made mid one (subst (λ (x : Settling). Plays x made mid) (same next is) path) (others next is) now)
    where
      same : (next : Settling) → next_play start ≡ Some (first, next) → after ≡ next
      same next is = ap (λ (x : Play × Settling). x.1) (same_Some _ _ (sym here ∙ is))

  pub plays_on-more : (start : Settling) (before : List Play) (mid : Settling) (after : List Play) (one : Play) (end : Settling)
      → PlaysOn start before mid after → next_play mid ≡ Some (one, end) → Called gives w mid.state one → PlaysOn start before end (after ++ one ∷ [])
  plays_on-more start before mid after one end so next called = record {
    made = so.made ++ one ∷ [];
    appended = ap (λ (ps : List Play). ps ++ one ∷ []) so.appended ∙ append_assoc before so.made (one ∷ []);
    path = along_more next_play start so.made mid one end so.path next;
    called = all_called-more start so.made mid one so.path so.called called;
  }

  -- where nothing is playable any more, it has settled
  pub settled_now : (r s : RecordsView C) (inband : ℕ) (of_clock : Bool) (before after : List Play) → PlaysOn (settling r 0 false) before (settling s inband of_clock) after
      → next_play (settling s inband of_clock) ≡ None → length after ≤ length before + play_limit → Appends gives w before (state_of r) after (state_of s)
  settled_now r s inband of_clock before after so ended few = record {
    made = so.made;
    appended = so.appended;
    settles = record { last = settling s inband of_clock; played = so.path; ended = ended; left = refl };
    few = omega (arith, few, ap (λ (ps : List Play). length ps) so.appended, length-append {A = Play} before so.made);
    called = so.called;
  }

  pub stalled_settles : (declared : C → ℕ) (plan : C → Plan) (r : RecordsView C) (before : List Play) → r.lines.oob.stalled ≡ true → Appends gives w before (state_of r) before (state_of r)
  stalled_settles declared plan r before stalled =
      settled_now r r 0 false before before (plays_on-none (settling r 0 false) before)
      (line_behind r 0 false (λ e. absurd (false≢true e)) ∙ none_next declared plan r 0 (stalled_next r.lines (is_anyone_eligible r.sched.sched) (nat_lt 0 inband_limit) stalled)) (omega arith)

  pub idle_settles : (declared : C → ℕ) (plan : C → Plan) (r : RecordsView C) (before : List Play) → (is_none (least r.lines.oob.pending) && is_none (least r.lines.inband.pending)) ≡ true
      → Appends gives w before (state_of r) before (state_of r)
  idle_settles declared plan r before idle =
      settled_now r r 0 false before before (plays_on-none (settling r 0 false) before)
      (line_behind r 0 false (λ e. absurd (false≢true e)) ∙ none_next declared plan r 0 (idle_next r.lines (is_anyone_eligible r.sched.sched) (nat_lt 0 inband_limit) idle)) (omega arith)

-- where nothing pends, it has settled already
pub idle_settled : {C : Type 0} (declared : C → ℕ) (plan : C → Plan) (r : RecordsView C) → (is_none (least r.lines.oob.pending) && is_none (least r.lines.inband.pending)) ≡ true → Settles (state_of r) [] (state_of r)
idle_settled declared plan r idle = record {
  last = settling r 0 false;
  played = refl;
  ended = line_behind r 0 false (λ e. absurd (false≢true e)) ∙ none_next declared plan r 0 (idle_next r.lines (is_anyone_eligible r.sched.sched) (nat_lt 0 inband_limit) idle);
  left = refl;
}

-- few plays are left after a call
pub left_at_first : {C : Type 0} (r : RecordsView C) → lines.IsSoundPipeline r.lines → IsSoundClock r.clock → left_after (state_of r) 0 ≤ play_limit
left_at_first r sound clock = omega (arith, length-rises 0 line_count r.lines.oob.pending (sound.sides Oob).rises, count-renamed number_of r.clock, few r.clock clock)
