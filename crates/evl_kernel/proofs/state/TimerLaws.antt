-- The callbacks after a change of the clock: which stand in timers, and that they are allowed there.
use Rattle.std.proofs.Common.{◌≡◌, ◌≤◌, ℕ, zero, suc, nat_le, ◌⊎◌, inl, inr, Bool, true, false, not, List, [], ◌∷◌, Option, Some, None, is_some, slice_get, slice_set, slice_index_or, Result, Ok, Err, OnOk, OnErr, if◌then◌else◌, refl, sym, ap, ◌∙◌, subst}
use Rattle.std.specs.Option.{option_map}
use Rattle.std.proofs.lemmas.Option.{slice_get-map, none-some, same_Some}
use Rattle.std.proofs.lemmas.List.{map-set, length-set}
use Rattle.evl_base.specs.declared.refusal.Refusal.{Refusal}
use Rattle.evl_base.specs.declared.refusal.Refusal.TheVariants.{Unknown, Invalid, Busy, Limit}
use Rattle.evl_base.specs.declared.stage.Stage.TheVariants.{Oob}
use Rattle.evl_pipeline.specs.Lines as lines
use Rattle.evl_base.specs.declared.reply.Reply.TheVariants.{Done, Number}
use Rattle.evl_pipeline.specs.declared.plan.Plan.{Plan}
use Rattle.evl_clock.specs.declared.timer.Timer.{Timer}
use Rattle.evl_clock.specs.Limits.{thread_count}
use Rattle.evl_clock.specs.Timers.{is_timer_allowed, made, after_fire, started, stopped}
use Rattle.evl_clock.specs.Clocks.{Clock, IsSoundClock, timer_at, with_timer, free_place, with_new_timer, timer_refusal, new_timer_refusal, advance_refusal, start, stop, dropped, advanced, with_deadline}
use Rattle.evl_clock.specs.ClockSteps.{fired}
use Rattle.evl_kernel.specs.declared.bank.BankPlace.{BankPlace}
use Rattle.evl_kernel.specs.declared.bank.Numbered.{Numbered}
use Rattle.evl_clock.specs.Dues.{is_due}
use Rattle.evl_kernel.specs.state.States.{State}
use Rattle.evl_kernel.specs.state.Renamed.{named_timer, renamed_clock}
use Rattle.evl_kernel.specs.calls.ThreadCalls.{paid_between}
use Rattle.evl_kernel.specs.calls.TimerCalls as timer_call
use Rattle.evl_kernel.specs.calls.Effects.{known, tells}
use Rattle.std.proofs.lemmas.Bool.{false≢true}
use Rattle.evl_kernel.proofs.state.SetLaws.{set_here}
use Rattle.evl_kernel.specs.state.Callbacks.{Stands, BringsNone, AnswersByPlan, handlers_in}
use Rattle.evl_kernel.specs.state.Records.{RecordsView, state_of, whereabouts, number_of, banked, kinds_at, AreAllowed, AreTimersAllowed, KeepsCallbacks}
use Rattle.evl_kernel.proofs.waiting.StandingLaws.{OnlyOld, old-posted, set-lookup}
use Rattle.evl_kernel.proofs.settling.ClockLaws.{timer-renamed, new-renamed, dropped-renamed, free-renamed, refusal-renamed, start-renamed, stop-renamed, is_due-renamed}
use Rattle.evl_kernel.proofs.state.BankLaws.{get-set, set-same, handlers-set, kinds-kept, place_of, allowed-kept}

module _ {X : Type 0} where
  pub sound-with_timer : (c : Clock X) (n : ℕ) (t : Option (Timer X)) → IsSoundClock c → IsSoundClock (with_timer c n t)
  sound-with_timer c n t h = record { timers = length-set c.timers n t ∙ h.timers; deadlines = h.deadlines }

  pub sound-with_deadline : (c : Clock X) (n : ℕ) (until : Option ℕ) → IsSoundClock c → IsSoundClock (with_deadline c n until)
  sound-with_deadline c n until h = record { timers = h.timers; deadlines = subst (λ (k : ℕ). k ≤ thread_count) (sym (length-set c.deadlines n until)) h.deadlines }

  pub sound-advanced : (c : Clock X) (delta : ℕ) → IsSoundClock c → IsSoundClock (advanced c delta)
  sound-advanced c delta h = record { timers = h.timers; deadlines = h.deadlines }

  pub sound-start : (c : Clock X) (n date interval : ℕ) → IsSoundClock c → IsSoundClock (start c n date interval)
  sound-start c n date interval h = sound-with_timer c n _ h

  pub sound-stop : (c : Clock X) (n : ℕ) → IsSoundClock c → IsSoundClock (stop c n)
  sound-stop c n h = sound-with_timer c n _ h

  -- the same callback stood in that timer
  abbrev pub StoodIn : Clock X → ℕ → Timer X → Type 0
  StoodIn c n at = (was : Timer X) × (timer_at c n ≡ Some was) × (at.callback ≡ was.callback)

  abbrev pub OnlyOldTimers : Clock X → Clock X → Type 0
  OnlyOldTimers c d = (n : ℕ) (at : Timer X) → timer_at d n ≡ Some at → StoodIn c n at

  pub old-with_timer : (c : Clock X) (n : ℕ) (t : Option (Timer X)) → ((at : Timer X) → t ≡ Some at → StoodIn c n at) → OnlyOldTimers c (with_timer c n t)
  old-with_timer c n t only other at h = by (set-lookup c.timers n other t at h)
    where
      by : (slice_index_or c.timers other None ≡ Some at) ⊎ ((other ≡ n) × (t ≡ Some at)) → StoodIn c other at
      by (inl old) = (at, old, refl)
      by (inr (same, is)) = subst (λ (k : ℕ). StoodIn c k at) (sym same) (only at is)

  old-changed : (f : Timer X → Timer X) → ((t : Timer X) → (f t).callback ≡ t.callback) → (c : Clock X) (n : ℕ) → OnlyOldTimers c (with_timer c n (option_map f (timer_at c n)))
  old-changed f same c n = old-with_timer c n (option_map f (timer_at c n)) (λ at e. by at (timer_at c n) refl e)
    where
      by : (at : Timer X) (o : Option (Timer X)) → timer_at c n ≡ o → option_map f o ≡ Some at → StoodIn c n at
      by at None here e = absurd (none-some _ e)
      by at (Some t) here e = (t, here, ap (λ (x : Timer X). x.callback) (sym (same_Some _ _ e)) ∙ same t)

  pub old-start : (c : Clock X) (n date interval : ℕ) → OnlyOldTimers c (start c n date interval)
  old-start c n date interval = old-changed (λ t. started t date interval) (λ t. refl) c n

  pub old-stop : (c : Clock X) (n : ℕ) → OnlyOldTimers c (stop c n)
  old-stop c n = old-changed stopped (λ t. refl) c n

  pub old-dropped : (c : Clock X) (n : ℕ) → OnlyOldTimers c (dropped c n)
  old-dropped c n = old-with_timer c n None (λ at e. absurd (none-some _ e))

  pub old-fired : (c : Clock X) (n : ℕ) (at : Timer X) → timer_at c n ≡ Some at → OnlyOldTimers c (fired c n at)
  old-fired c n at there = old-with_timer c n (Some (after_fire c.now at)) (λ now e. (at, there, ap (λ (x : Timer X). x.callback) (sym (same_Some _ _ e))))

  pub old-advanced : (c : Clock X) (delta : ℕ) → OnlyOldTimers c (advanced c delta)
  old-advanced c delta n at h = (at, h, refl)

  pub old-with_deadline : (c : Clock X) (thread : ℕ) (until : Option ℕ) → OnlyOldTimers c (with_deadline c thread until)
  old-with_deadline c thread until n at h = (at, h, refl)

  -- what is in timers after one was made is what it brought, or was there
  pub new-timer : (c : Clock X) (n : ℕ) (callback : X) (tag other : ℕ) (at : Timer X) → timer_at (with_new_timer c n callback tag) other ≡ Some at → StoodIn c other at ⊎ (at.callback ≡ callback)
  new-timer c n callback tag other at h = by (set-lookup c.timers n other _ at h)
    where
      by : (slice_index_or c.timers other None ≡ Some at) ⊎ ((other ≡ n) × (Some (made callback tag) ≡ Some at)) → StoodIn c other at ⊎ (at.callback ≡ callback)
      by (inl old) = inl (at, old, refl)
      by (inr (same, is)) = inr (ap (λ (x : Timer X). x.callback) (sym (same_Some _ _ is)))

-- a post of line 0 brings nothing, whatever comes of it
pub old-tried : {X : Type 0} (p q : lines.Pipeline X) (result : Result (Unit {0}) Refusal) → OnOk result ((lines.post_refusal 0 ≡ None) × (q ≡ lines.posted p Oob 0)) → OnErr result (q ≡ p) → OnlyOld p q
old-tried p q (Ok done) ok err = subst (OnlyOld p) (sym ok.1) (old-posted p Oob 0)
old-tried p q (Err refusal) ok err = subst (OnlyOld p) (sym err) (λ stage line at h. (at, h, refl))

some_timer : {X Y : Type 0} (name : X → Y) (o : Option (Timer X)) (now : Timer Y) → option_map (named_timer name) o ≡ Some now → (at : Timer X) × (o ≡ Some at) × (now ≡ named_timer name at)
some_timer name None now h = absurd (none-some _ h)
some_timer name (Some at) now h = (at, refl, sym (same_Some _ _ h))

pub timers-renamed : {X Y : Type 0} (name : X → Y) (c d : Clock X) → OnlyOldTimers c d → OnlyOldTimers (renamed_clock name c) (renamed_clock name d)
timers-renamed {X} {Y} name c d only n now h =
    let found = some_timer name (timer_at d n) now (sym (timer-renamed name d n) ∙ h) in
    let was = only n found.0 found.1 in
    (named_timer name was.0, timer-renamed name c n ∙ ap (option_map (named_timer name)) was.1, ap (λ (x : Timer Y). x.callback) found.2 ∙ ap name was.2)

module _ {C : Type 0} where
  abbrev pub with_clock : RecordsView C → Clock (Numbered C) → RecordsView C
  with_clock r d = record r { clock = d }

  -- after a change of the clock that brings nothing
  pub keeps-clock : (r : RecordsView C) (d : Clock (Numbered C)) → OnlyOldTimers r.clock d → KeepsCallbacks r (with_clock r d)
  keeps-clock r d only = record { brings = stood; handlers_are = refl }
    where
      stood : BringsNone (whereabouts r) (whereabouts (with_clock r d))
      stood number callback (inl home) = inl (record { place = home.place; at = home.at; there = home.there })
      stood number callback (inr (inl out)) = inr (inl (record { stage = out.stage; line = out.line; at = out.at; there = out.there; number_is = out.number_is; callback_is = out.callback_is }))
      stood number callback (inr (inr timed)) =
          let was = only timed.timer timed.at timed.there in
          inr (inr (record {
            timer = timed.timer;
            at = was.0;
            there = was.1;
            number_is = ap (λ (n : Numbered C). n.number) (sym was.2) ∙ timed.number_is;
            callback_is = ap (λ (n : Numbered C). n.callback) (sym was.2) ∙ timed.callback_is;
          }))

  pub timers_allowed-clock : (r : RecordsView C) (d : Clock (Numbered C)) → OnlyOldTimers r.clock d → AreTimersAllowed (state_of r) → AreTimersAllowed (state_of (with_clock r d))
  timers_allowed-clock r d only allowed n at h =
      let was = timers-renamed number_of r.clock d only n at h in
      subst (λ (k : ℕ). is_timer_allowed (kinds_at (state_of r) k) ≡ true) (sym was.2) (allowed n was.0 was.1)

  -- what the places say stays, and no timer brings a callback
  pub timers_allowed-kept : (r s : RecordsView C) → OnlyOldTimers r.clock s.clock → handlers_in s.bank ≡ handlers_in r.bank → AreTimersAllowed (state_of r) → AreTimersAllowed (state_of s)
  timers_allowed-kept r s only same allowed n at h =
      let was = timers-renamed number_of r.clock s.clock only n at h in
      let then_ : is_timer_allowed (kinds_at (state_of r) at.callback) ≡ true = subst (λ (k : ℕ). is_timer_allowed (kinds_at (state_of r) k) ≡ true) (sym was.2) (allowed n was.0 was.1) in
      subst (λ (k : ℕ). is_timer_allowed k ≡ true) (sym (kinds-kept r s at.callback same)) then_

  -- the calls on a clock without callbacks that move
  pub stopped_state : (r : RecordsView C) (n : ℕ) (d : Clock (Numbered C)) → timer_refusal r.clock n ≡ None → d ≡ stop r.clock n
      → timer_call.stop_timer (state_of r) n ≡ Ok (Done, state_of (with_clock r d))
  stopped_state r n d none after = rw (refusal-renamed number_of r.clock n, none, after, stop-renamed number_of r.clock n) refl

  pub ticked_state : (r : RecordsView C) (delta : ℕ) (due : Bool) (d : Clock (Numbered C)) → advance_refusal r.clock delta ≡ None → d ≡ advanced r.clock delta → due ≡ is_due d
      → (paid : State) → paid ≡ paid_between (state_of (with_clock r d)) r.clock.now delta d.now → (t : State) → t ≡ timer_call.posted_if due paid → timer_call.tick (state_of r) delta ≡ Ok (Done, t)
  ticked_state r delta due d none after is paid paid_is t after_t =
      let same : due ≡ is_due (renamed_clock number_of (advanced r.clock delta)) = is ∙ (ap (λ (c : Clock (Numbered C)). is_due c) after ∙ sym (is_due-renamed number_of (advanced r.clock delta))) in
      rw (none, after_t, paid_is, same, after) refl

  pub started_state : (r : RecordsView C) (n date interval : ℕ) (due : Bool) (d : Clock (Numbered C)) → timer_refusal r.clock n ≡ None → d ≡ start r.clock n date interval → due ≡ nat_le date r.clock.now
      → (t : State) → t ≡ timer_call.posted_if due (state_of (with_clock r d)) → timer_call.start_timer (state_of r) n date interval ≡ Ok (Done, t)
  started_state r n date interval due d none after is t after_t =
      rw (refusal-renamed number_of r.clock n, none, after_t, is, after, start-renamed number_of r.clock n date interval) refl

  -- what was dropped stood in its timer, and its place is in the bank
  pub record WasIn (r : RecordsView C) (n : ℕ) (numbered : Numbered C) : Type 0 where
    pub at : Timer (Numbered C)
    pub here : timer_at r.clock n ≡ Some at
    pub is : at.callback ≡ numbered
    pub place : BankPlace C
    pub there : slice_get r.bank numbered.number ≡ Some place

  pub was_in : (declared : C → ℕ) (plan : C → Plan) (r : RecordsView C) (n : ℕ) (numbered : Numbered C) → AnswersByPlan declared plan (whereabouts r)
      → option_map (λ t. t.callback) (timer_at r.clock n) ≡ Some numbered → WasIn r n numbered
  was_in declared plan r n numbered answers taken = by (timer_at r.clock n) refl taken
    where
      by : (o : Option (Timer (Numbered C))) → timer_at r.clock n ≡ o → option_map (λ t. t.callback) o ≡ Some numbered → WasIn r n numbered
      by None here e = absurd (none-some _ e)
      by (Some at) here e =
          let same : at.callback ≡ numbered = same_Some _ _ e in
          let place = place_of declared plan (whereabouts r) numbered.number numbered.callback answers (inr (inr (record {
            timer = n;
            at = at;
            there = here;
            number_is = ap (λ (m : Numbered C). m.number) same;
            callback_is = ap (λ (m : Numbered C). m.callback) same;
          }))) in
          record { at = at; here = here; is = same; place = place.0; there = place.1 }

  abbrev pub dropped_back : RecordsView C → ℕ → Numbered C → BankPlace C → RecordsView C
  dropped_back r n numbered place = record r {
    bank = slice_set r.bank numbered.number (record place { callback = Some numbered.callback });
    clock = dropped r.clock n;
  }

  pub dropped_state : (r : RecordsView C) (n : ℕ) (numbered : Numbered C) (out : WasIn r n numbered) → timer_call.drop_timer (state_of r) n ≡ Ok (Done, state_of (dropped_back r n numbered out.place))
  dropped_state r n numbered out =
      rw (
        timer-renamed number_of r.clock n,
        out.here,
        ap (λ (m : Numbered C). m.number) out.is,
        dropped-renamed number_of r.clock n,
        slice_get-map banked r.bank numbered.number,
        out.there,
        map-set banked r.bank numbered.number (record out.place { callback = Some numbered.callback }),
      ) refl

  pub dropped_keeps : (r : RecordsView C) (n : ℕ) (numbered : Numbered C) (out : WasIn r n numbered) → KeepsCallbacks r (dropped_back r n numbered out.place)
  dropped_keeps r n numbered out = record { brings = stood; handlers_are = handlers-set r.bank numbered.number out.place _ out.there refl }
    where
      home : (number : ℕ) (callback : C) (p : BankPlace C) → p.callback ≡ Some callback
          → (slice_get r.bank number ≡ Some p) ⊎ ((number ≡ numbered.number) × (record out.place { callback = Some numbered.callback } ≡ p)) → Stands (whereabouts r) number callback
      home number callback p has (inl old) = inl (record { place = p; at = old; there = has })
      home number callback p has (inr (same, is)) = inr (inr (record {
        timer = n;
        at = out.at;
        there = out.here;
        number_is = ap (λ (m : Numbered C). m.number) out.is ∙ sym same;
        callback_is = ap (λ (m : Numbered C). m.callback) out.is ∙ same_Some _ _ (ap (λ (q : BankPlace C). q.callback) is ∙ has);
      }))

      stood : BringsNone (whereabouts r) (whereabouts (dropped_back r n numbered out.place))
      stood number callback (inl it) = home number callback it.place it.there (get-set r.bank numbered.number number _ it.place it.at)
      stood number callback (inr (inl it)) = inr (inl (record { stage = it.stage; line = it.line; at = it.at; there = it.there; number_is = it.number_is; callback_is = it.callback_is }))
      stood number callback (inr (inr it)) =
          let was = old-dropped r.clock n it.timer it.at it.there in
          inr (inr (record {
            timer = it.timer;
            at = was.0;
            there = was.1;
            number_is = ap (λ (m : Numbered C). m.number) (sym was.2) ∙ it.number_is;
            callback_is = ap (λ (m : Numbered C). m.callback) (sym was.2) ∙ it.callback_is;
          }))

  pub dropped_allowed : (r : RecordsView C) (n : ℕ) (numbered : Numbered C) (out : WasIn r n numbered) → AreAllowed (state_of r) → AreAllowed (state_of (dropped_back r n numbered out.place))
  dropped_allowed r n numbered out allowed =
      allowed-kept r (dropped_back r n numbered out.place) (λ stage line at h. (at, h, refl)) (handlers-set r.bank numbered.number out.place _ out.there refl) allowed

  pub dropped_timers_allowed : (r : RecordsView C) (n : ℕ) (numbered : Numbered C) (out : WasIn r n numbered) → AreTimersAllowed (state_of r) → AreTimersAllowed (state_of (dropped_back r n numbered out.place))
  dropped_timers_allowed r n numbered out allowed =
      timers_allowed-kept r (dropped_back r n numbered out.place) (old-dropped r.clock n) (handlers-set r.bank numbered.number out.place _ out.there refl) allowed

  pub dropped_sound : (r : RecordsView C) (n : ℕ) → IsSoundClock r.clock → IsSoundClock (dropped r.clock n)
  dropped_sound r n h = sound-with_timer r.clock n None h

  -- a callback leaves for a timer
  abbrev pub after_new : RecordsView C → ℕ → ℕ → ℕ → C → BankPlace C → RecordsView C
  after_new r k n tag callback place = record r {
    bank = slice_set r.bank n (record place { callback = None });
    clock = with_new_timer r.clock k (record { number = n; callback = callback }) tag;
  }

  pub new_state : (r : RecordsView C) (k n tag : ℕ) (callback : C) (place : BankPlace C) → slice_get r.bank n ≡ Some place → is_timer_allowed place.kinds.0 ≡ true → place.callback ≡ Some callback → free_place r.clock ≡ Some k
      → timer_call.new_timer (state_of r) n tag ≡ Ok (Number k, state_of (after_new r k n tag callback place))
  new_state r k n tag callback place there allowed has free =
      rw (
        slice_get-map banked r.bank n,
        there,
        allowed,
        has,
        free-renamed number_of r.clock,
        free,
        new-renamed number_of r.clock k (record { number = n; callback = callback }) tag,
        map-set banked r.bank n (record place { callback = None }),
      ) refl

  pub new_busy : (r : RecordsView C) (n tag : ℕ) (place : BankPlace C) → slice_get r.bank n ≡ Some place → is_timer_allowed place.kinds.0 ≡ true → place.callback ≡ None → timer_call.new_timer (state_of r) n tag ≡ Err Busy
  new_busy r n tag place there allowed out = rw (slice_get-map banked r.bank n, there, allowed, out) refl

  pub new_limit : (r : RecordsView C) (n tag : ℕ) (callback : C) (place : BankPlace C) → slice_get r.bank n ≡ Some place → is_timer_allowed place.kinds.0 ≡ true → place.callback ≡ Some callback → free_place r.clock ≡ None
      → timer_call.new_timer (state_of r) n tag ≡ Err Limit
  new_limit r n tag callback place there allowed has free = rw (slice_get-map banked r.bank n, there, allowed, has, free-renamed number_of r.clock, free) refl

  pub new_keeps : (r : RecordsView C) (k n tag : ℕ) (callback : C) (place : BankPlace C) → slice_get r.bank n ≡ Some place → place.callback ≡ Some callback → KeepsCallbacks r (after_new r k n tag callback place)
  new_keeps r k n tag callback place there has = record { brings = stood; handlers_are = handlers-set r.bank n place _ there refl }
    where
      home : (number : ℕ) (other : C) (p : BankPlace C) → p.callback ≡ Some other
          → (slice_get r.bank number ≡ Some p) ⊎ ((number ≡ n) × (record place { callback = None } ≡ p)) → Stands (whereabouts r) number other
      home number other p here (inl old) = inl (record { place = p; at = old; there = here })
      home number other p here (inr (same, is)) = absurd (none-some _ (ap (λ (q : BankPlace C). q.callback) is ∙ here))

      timed : (number : ℕ) (other : C) (m : ℕ) (at : Timer (Numbered C)) → at.callback.number ≡ number → at.callback.callback ≡ other
          → StoodIn r.clock m at ⊎ (at.callback ≡ record { number = n; callback = callback }) → Stands (whereabouts r) number other
      timed number other m at is_number is_callback (inl was) = inr (inr (record {
        timer = m;
        at = was.0;
        there = was.1;
        number_is = ap (λ (x : Numbered C). x.number) (sym was.2) ∙ is_number;
        callback_is = ap (λ (x : Numbered C). x.callback) (sym was.2) ∙ is_callback;
      }))
      timed number other m at is_number is_callback (inr new) =
          let this_number : number ≡ n = sym is_number ∙ ap (λ (x : Numbered C). x.number) new in
          let this_callback : callback ≡ other = sym (ap (λ (x : Numbered C). x.callback) new) ∙ is_callback in
          inl (record { place = place; at = ap (λ (q : ℕ). slice_get r.bank q) this_number ∙ there; there = has ∙ ap Some this_callback })

      stood : BringsNone (whereabouts r) (whereabouts (after_new r k n tag callback place))
      stood number other (inl it) = home number other it.place it.there (get-set r.bank n number _ it.place it.at)
      stood number other (inr (inl it)) = inr (inl (record { stage = it.stage; line = it.line; at = it.at; there = it.there; number_is = it.number_is; callback_is = it.callback_is }))
      stood number other (inr (inr it)) = timed number other it.timer it.at it.number_is it.callback_is (new-timer r.clock k (record { number = n; callback = callback }) tag it.timer it.at it.there)

  pub new_allowed : (r : RecordsView C) (k n tag : ℕ) (callback : C) (place : BankPlace C) → slice_get r.bank n ≡ Some place → AreAllowed (state_of r) → AreAllowed (state_of (after_new r k n tag callback place))
  new_allowed r k n tag callback place there allowed =
      allowed-kept r (after_new r k n tag callback place) (λ stage line at h. (at, h, refl)) (handlers-set r.bank n place _ there refl) allowed

  pub new_timers_allowed : (r : RecordsView C) (k n tag : ℕ) (callback : C) (place : BankPlace C) → slice_get r.bank n ≡ Some place → is_timer_allowed place.kinds.0 ≡ true
      → AreTimersAllowed (state_of r) → AreTimersAllowed (state_of (after_new r k n tag callback place))
  new_timers_allowed r k n tag callback place there declared allowed m at h =
      let s = after_new r k n tag callback place in
      let h' = subst (λ (c : Clock ℕ). timer_at c m ≡ Some at) (new-renamed number_of r.clock k (record { number = n; callback = callback }) tag) h in
      subst (λ (x : ℕ). is_timer_allowed x ≡ true) (sym (kinds-kept r s at.callback (handlers-set r.bank n place _ there refl)))
      (by (new-timer (renamed_clock number_of r.clock) k n tag m at h'))
    where
      kinds_are : kinds_at (state_of r) n ≡ place.kinds.0
      kinds_are = rw (slice_get-map banked r.bank n, there) refl

      by : StoodIn (renamed_clock number_of r.clock) m at ⊎ (at.callback ≡ n) → is_timer_allowed (kinds_at (state_of r) at.callback) ≡ true
      by (inl was) = subst (λ (x : ℕ). is_timer_allowed (kinds_at (state_of r) x) ≡ true) (sym was.2) (allowed m was.0 was.1)
      by (inr is) = subst (λ (x : ℕ). is_timer_allowed (kinds_at (state_of r) x) ≡ true) (sym is) (subst (λ (x : ℕ). is_timer_allowed x ≡ true) (sym kinds_are) declared)

  -- the bank as it was before a callback was taken out and put back
  set-set : (bank : List (BankPlace C)) (n : ℕ) (a b : BankPlace C) → slice_set (slice_set bank n a) n b ≡ slice_set bank n b
  set-set [] n a b = refl
  set-set (x ∷ xs) zero a b = refl
  set-set (x ∷ xs) (suc n) a b = ap (λ (ys : List (BankPlace C)). x ∷ ys) (set-set xs n a b)

  pub restored : (bank mid : List (BankPlace C)) (n : ℕ) (place : BankPlace C) (callback other : C) → slice_get bank n ≡ Some place → place.callback ≡ Some callback → other ≡ callback
      → mid ≡ slice_set bank n (record place { callback = None }) → slice_set mid n (record place { callback = Some other }) ≡ bank
  restored bank mid n place callback other there has same is =
      let back : record place { callback = Some other } ≡ place = (λ i. record place { callback = (ap Some same ∙ sym has) i }) in
      ap (λ (b : List (BankPlace C)). slice_set b n (record place { callback = Some other })) is
      ∙ (set-set bank n (record place { callback = None }) (record place { callback = Some other })
      ∙ (ap (λ (p : BankPlace C). slice_set bank n p) back ∙ set-same bank n place there))

  pub taken_there : (bank mid : List (BankPlace C)) (n : ℕ) (place : BankPlace C) → slice_get bank n ≡ Some place → mid ≡ slice_set bank n (record place { callback = None })
      → slice_get mid n ≡ Some (record place { callback = None })
  taken_there bank mid n place there is = ap (λ (b : List (BankPlace C)). slice_get b n) is ∙ set_here bank n place (record place { callback = None }) there

  -- a clock that refuses what is allowed is full
  pub is_full : (c : Clock (Numbered C)) (kinds : ℕ) (refusal : Refusal) → is_timer_allowed kinds ≡ true → new_timer_refusal c kinds ≡ Some refusal → (refusal ≡ Limit) × (free_place c ≡ None)
  is_full c kinds refusal = by (is_timer_allowed kinds) (free_place c)
    where
      by : (b : Bool) (o : Option ℕ) → b ≡ true → (if not b then Some Invalid else (if is_some o then None else Some Limit)) ≡ Some refusal → (refusal ≡ Limit) × (o ≡ None)
      by true None allowed e = (sym (same_Some _ _ e), refl)
      by true (Some n) allowed e = absurd (none-some _ e)
      by false o allowed e = absurd (false≢true allowed)

  pub overruns_told : (r : RecordsView C) (n k : ℕ) → option_map (λ t. t.overruns) (timer_at r.clock n) ≡ Some k → timer_call.overruns (state_of r) n ≡ Ok (Number k, state_of r)
  overruns_told r n k h = rw (timer-renamed number_of r.clock n) (by (timer_at r.clock n) h)
    where
      by : (o : Option (Timer (Numbered C))) → option_map (λ t. t.overruns) o ≡ Some k → known (option_map (named_timer number_of) o) (λ t. tells t.overruns (state_of r)) ≡ Ok (Number k, state_of r)
      by None e = absurd (none-some _ e)
      by (Some t) e = ap (λ (m : ℕ). Ok (Number m, state_of r)) (same_Some _ _ e)

  pub overruns_unknown : (r : RecordsView C) (n : ℕ) (e : Refusal) → timer_refusal r.clock n ≡ Some e → timer_call.overruns (state_of r) n ≡ Err Unknown
  overruns_unknown r n e h = rw (timer-renamed number_of r.clock n) (by (timer_at r.clock n) h)
    where
      by : (o : Option (Timer (Numbered C))) → (if is_some o then None else Some Unknown) ≡ Some e → known (option_map (named_timer number_of) o) (λ t. tells t.overruns (state_of r)) ≡ Err Unknown
      by None f = refl
      by (Some t) f = absurd (none-some _ f)
