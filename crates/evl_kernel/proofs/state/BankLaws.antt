-- The bank's places when a callback leaves for a line and when it comes back.
use Rattle.std.proofs.Common.{◌≡◌, ℕ, zero, suc, ◌⊎◌, inl, inr, Bool, true, false, not, ◌||◌, ◌==◌, nat_lt, List, [], ◌∷◌, Option, Some, None, is_some, slice_get, slice_set, Ok, Err, if◌then◌else◌, refl, sym, ap, ◌∙◌, subst}
use Rattle.std.specs.Option.{option_map, option_map_or}
use Rattle.std.proofs.lemmas.Option.{slice_get-map, none-some, same_Some}
use Rattle.std.proofs.lemmas.List.{map-set}
use Rattle.evl_base.proofs.Plain.{some-none}
use Rattle.evl_base.specs.declared.action_kinds.ActionKinds.{ActionKinds}
use Rattle.evl_base.specs.declared.stage.Stage.{Stage}
use Rattle.evl_base.specs.declared.refusal.Refusal.{Refusal}
use Rattle.evl_base.specs.declared.refusal.Refusal.TheVariants.{Unknown, Invalid, Busy}
use Rattle.evl_base.specs.declared.reply.Reply.TheVariants.{Done}
use Rattle.evl_pipeline.specs.declared.plan.Plan.{Plan}
use Rattle.evl_pipeline.specs.Limits.{line_count}
use Rattle.evl_pipeline.specs.Plans.{is_allowed}
use Rattle.evl_pipeline.specs.Lines.{Pipeline, Installed, installed_at, request_refusal, requested, free_refusal, freed}
use Rattle.evl_kernel.specs.declared.bank.BankPlace.{BankPlace}
use Rattle.evl_kernel.specs.declared.bank.Numbered.{Numbered}
use Rattle.evl_kernel.specs.state.States.{Handler}
use Rattle.evl_kernel.specs.state.Renamed.{renamed}
use Rattle.evl_kernel.specs.calls.LineCalls as line_call
use Rattle.evl_kernel.specs.state.Callbacks.{Whereabouts, Stands, BringsNone, AnswersByPlan, handler_of, handlers_in}
use Rattle.evl_kernel.specs.state.Records.{RecordsView, state_of, whereabouts, number_of, banked, kinds_at, AreAllowed, KeepsCallbacks}
use Rattle.evl_kernel.proofs.waiting.StandingLaws.{OnlyOld, Stood, old-freed, new-requested}
use Rattle.evl_kernel.proofs.state.RenamedLaws.{old-renamed, installed-renamed, free_refusal-renamed, freed-renamed, request_refusal-renamed, requested-renamed}

-- what a list has after an element was set: that element, or what it had
pub get-set : {A : Type 0} (xs : List A) (i q : ℕ) (x a : A) → slice_get (slice_set xs i x) q ≡ Some a → (slice_get xs q ≡ Some a) ⊎ ((q ≡ i) × (x ≡ a))
get-set [] i q x a h = inl h
get-set (y ∷ ys) zero zero x a h = inr (refl, same_Some _ _ h)
get-set (y ∷ ys) zero (suc q) x a h = inl h
get-set (y ∷ ys) (suc i) zero x a h = inl h
get-set (y ∷ ys) (suc i) (suc q) x a h = later (get-set ys i q x a h)
  where
    later : (slice_get ys q ≡ Some a) ⊎ ((q ≡ i) × (x ≡ a)) → (slice_get ys q ≡ Some a) ⊎ ((suc q ≡ suc i) × (x ≡ a))
    later (inl old) = inl old
    later (inr (same, is)) = inr (ap suc same, is)

-- an element is set to what it was
pub set-same : {A : Type 0} (xs : List A) (i : ℕ) (x : A) → slice_get xs i ≡ Some x → slice_set xs i x ≡ xs
set-same [] i x h = refl
set-same (y ∷ ys) zero x h = ap (λ z. z ∷ ys) (sym (same_Some _ _ h))
set-same (y ∷ ys) (suc i) x h = ap (λ zs. y ∷ zs) (set-same ys i x h)

module _ {C : Type 0} where
  -- the place that this handler is of
  pub place_told : (bank : List (BankPlace C)) (n : ℕ) (h : Handler) → slice_get (handlers_in bank) n ≡ Some h → (place : BankPlace C) × (slice_get bank n ≡ Some place) × (handler_of place ≡ h)
  place_told bank n h is = by (slice_get bank n) refl (sym (slice_get-map handler_of bank n) ∙ is)
    where
      by : (o : Option (BankPlace C)) → slice_get bank n ≡ o → option_map handler_of o ≡ Some h → (place : BankPlace C) × (slice_get bank n ≡ Some place) × (handler_of place ≡ h)
      by None at e = absurd (none-some _ e)
      by (Some place) at e = (place, at, same_Some _ _ e)

  -- what a callback declares and answers, wherever it is, is what its place says
  pub place_of : (declared : C → ℕ) (plan : C → Plan) (w : Whereabouts C) (n : ℕ) (callback : C) → AnswersByPlan declared plan w → Stands w n callback
      → (place : BankPlace C) × (slice_get w.bank n ≡ Some place) × (handler_of place ≡ record { kinds = declared callback; plan = plan callback })
  place_of declared plan w n callback answers stands = place_told w.bank n (record { kinds = declared callback; plan = plan callback }) (answers n callback stands)

  -- what a place says doesn't depend on whether its callback is there
  pub handlers-set : (bank : List (BankPlace C)) (n : ℕ) (place new : BankPlace C) → slice_get bank n ≡ Some place → handler_of new ≡ handler_of place → handlers_in (slice_set bank n new) ≡ handlers_in bank
  handlers-set bank n place new at same =
      map-set handler_of bank n new ∙ (ap (λ h. slice_set (handlers_in bank) n h) same
      ∙ set-same (handlers_in bank) n (handler_of place) (slice_get-map handler_of bank n ∙ ap (option_map handler_of) at))

  kinds-told : (r : RecordsView C) (n : ℕ) → kinds_at (state_of r) n ≡ option_map_or (λ h. h.kinds) (slice_get (handlers_in r.bank) n) 0
  kinds-told r n = rw (slice_get-map banked r.bank n, slice_get-map handler_of r.bank n) (by (slice_get r.bank n))
    where
      by : (o : Option (BankPlace C)) → option_map_or (λ b. b.handler.kinds) (option_map banked o) 0 ≡ option_map_or (λ h. h.kinds) (option_map handler_of o) 0
      by None = refl
      by (Some place) = refl

  pub kinds-kept : (r s : RecordsView C) (n : ℕ) → handlers_in s.bank ≡ handlers_in r.bank → kinds_at (state_of s) n ≡ kinds_at (state_of r) n
  kinds-kept r s n same = kinds-told s n ∙ (ap (λ (hs : List Handler). option_map_or (λ h. h.kinds) (slice_get hs n) 0) same ∙ sym (kinds-told r n))

  pub allowed-kept : (r s : RecordsView C) → OnlyOld r.lines s.lines → handlers_in s.bank ≡ handlers_in r.bank → AreAllowed (state_of r) → AreAllowed (state_of s)
  allowed-kept r s only same allowed stage line at h =
      let was = old-renamed number_of r.lines s.lines only stage line at h in
      let then_ : is_allowed stage (kinds_at (state_of r) at.callback) ≡ true = subst (λ (n : ℕ). is_allowed stage (kinds_at (state_of r) n) ≡ true) (sym was.2) (allowed stage line was.0 was.1) in
      subst (λ (k : ℕ). is_allowed stage k ≡ true) (sym (kinds-kept r s at.callback same)) then_

  -- a callback comes back from a line
  abbrev pub after_free : RecordsView C → ℕ → Stage → Installed (Numbered C) → BankPlace C → RecordsView C
  after_free r line stage at place = record r {
    bank = slice_set r.bank at.callback.number (record place { callback = Some at.callback.callback });
    lines = freed r.lines line stage;
  }

  pub freed_state : (r : RecordsView C) (line : ℕ) (stage : Stage) (at : Installed (Numbered C)) (place : BankPlace C)
      → free_refusal r.lines line stage ≡ None → installed_at r.lines stage line ≡ Some at → slice_get r.bank at.callback.number ≡ Some place
      → line_call.free_line (state_of r) line stage ≡ Ok (Done, state_of (after_free r line stage at place))
  freed_state r line stage at place none here there =
      rw (
        free_refusal-renamed number_of r.lines line stage,
        none,
        installed-renamed number_of r.lines stage line,
        here,
        slice_get-map banked r.bank at.callback.number,
        there,
        freed-renamed number_of r.lines line stage,
        map-set banked r.bank at.callback.number (record place { callback = Some at.callback.callback }),
      ) refl

  pub freed_keeps : (r : RecordsView C) (line : ℕ) (stage : Stage) (at : Installed (Numbered C)) (place : BankPlace C)
      → installed_at r.lines stage line ≡ Some at → slice_get r.bank at.callback.number ≡ Some place
      → KeepsCallbacks r (after_free r line stage at place)
  freed_keeps r line stage at place here there = record { brings = stood; handlers_are = handlers-set r.bank at.callback.number place _ there refl }
    where
      home : (number : ℕ) (callback : C) (p : BankPlace C) → p.callback ≡ Some callback
          → (slice_get r.bank number ≡ Some p) ⊎ ((number ≡ at.callback.number) × (record place { callback = Some at.callback.callback } ≡ p)) → Stands (whereabouts r) number callback
      home number callback p has (inl old) = inl (record { place = p; at = old; there = has })
      home number callback p has (inr (same, is)) = inr (inl (record {
        stage = stage;
        line = line;
        at = at;
        there = here;
        number_is = sym same;
        callback_is = same_Some _ _ (ap (λ (q : BankPlace C). q.callback) is ∙ has);
      }))

      stood : BringsNone (whereabouts r) (whereabouts (after_free r line stage at place))
      stood number callback (inl it) = home number callback it.place it.there (get-set r.bank at.callback.number number _ it.place it.at)
      stood number callback (inr (inr it)) = inr (inr (record { timer = it.timer; at = it.at; there = it.there; number_is = it.number_is; callback_is = it.callback_is }))
      stood number callback (inr (inl it)) =
          let was = old-freed r.lines line stage it.stage it.line it.at it.there in
          inr (inl (record {
            stage = it.stage;
            line = it.line;
            at = was.0;
            there = was.1;
            number_is = ap (λ (n : Numbered C). n.number) (sym was.2) ∙ it.number_is;
            callback_is = ap (λ (n : Numbered C). n.callback) (sym was.2) ∙ it.callback_is;
          }))

  -- a callback leaves for a line
  abbrev pub after_request : RecordsView C → ℕ → Stage → ℕ → ℕ → C → BankPlace C → RecordsView C
  after_request r line stage n tag callback place = record r {
    bank = slice_set r.bank n (record place { callback = None });
    lines = requested r.lines line stage (record { number = n; callback = callback }) tag;
  }

  pub requested_state : (r : RecordsView C) (line : ℕ) (stage : Stage) (n tag : ℕ) (callback : C) (place : BankPlace C)
      → slice_get r.bank n ≡ Some place → request_refusal r.lines line stage place.kinds.0 ≡ None → place.callback ≡ Some callback
      → line_call.request (state_of r) line stage n tag ≡ Ok (Done, state_of (after_request r line stage n tag callback place))
  requested_state r line stage n tag callback place there none has =
      rw (
        slice_get-map banked r.bank n,
        there,
        request_refusal-renamed number_of r.lines line stage place.kinds.0,
        none,
        has,
        requested-renamed number_of r.lines line stage (record { number = n; callback = callback }) tag,
        map-set banked r.bank n (record place { callback = None }),
      ) refl

  -- the refusals of a request
  pub request_refused : (r : RecordsView C) (line : ℕ) (stage : Stage) (n tag : ℕ) (place : BankPlace C) (refusal : Refusal)
      → slice_get r.bank n ≡ Some place → request_refusal r.lines line stage place.kinds.0 ≡ Some refusal
      → line_call.request (state_of r) line stage n tag ≡ Err refusal
  request_refused r line stage n tag place refusal there some =
      rw (slice_get-map banked r.bank n, there, request_refusal-renamed number_of r.lines line stage place.kinds.0, some) refl

  pub request_busy : (r : RecordsView C) (line : ℕ) (stage : Stage) (n tag : ℕ) (place : BankPlace C)
      → slice_get r.bank n ≡ Some place → request_refusal r.lines line stage place.kinds.0 ≡ None → place.callback ≡ None
      → line_call.request (state_of r) line stage n tag ≡ Err Busy
  request_busy r line stage n tag place there none out =
      rw (slice_get-map banked r.bank n, there, request_refusal-renamed number_of r.lines line stage place.kinds.0, none, out) refl

  pub requested_keeps : (r : RecordsView C) (line : ℕ) (stage : Stage) (n tag : ℕ) (callback : C) (place : BankPlace C)
      → slice_get r.bank n ≡ Some place → place.callback ≡ Some callback
      → KeepsCallbacks r (after_request r line stage n tag callback place)
  requested_keeps r line stage n tag callback place there has = record { brings = stood; handlers_are = handlers-set r.bank n place _ there refl }
    where
      home : (number : ℕ) (other : C) (p : BankPlace C) → p.callback ≡ Some other
          → (slice_get r.bank number ≡ Some p) ⊎ ((number ≡ n) × (record place { callback = None } ≡ p)) → Stands (whereabouts r) number other
      home number other p here (inl old) = inl (record { place = p; at = old; there = here })
      home number other p here (inr (same, is)) = absurd (none-some _ (ap (λ (q : BankPlace C). q.callback) is ∙ here))

      out : (number : ℕ) (other : C) (v : Stage) (l : ℕ) (at : Installed (Numbered C)) → at.callback.number ≡ number → at.callback.callback ≡ other
          → Stood r.lines v l at ⊎ ((v ≡ stage) × (at.callback ≡ record { number = n; callback = callback })) → Stands (whereabouts r) number other
      out number other v l at is_number is_callback (inl was) = inr (inl (record {
        stage = v;
        line = l;
        at = was.0;
        there = was.1;
        number_is = ap (λ (m : Numbered C). m.number) (sym was.2) ∙ is_number;
        callback_is = ap (λ (m : Numbered C). m.callback) (sym was.2) ∙ is_callback;
      }))
      out number other v l at is_number is_callback (inr (same, new)) =
          let this_number : number ≡ n = sym is_number ∙ ap (λ (m : Numbered C). m.number) new in
          let this_callback : callback ≡ other = sym (ap (λ (m : Numbered C). m.callback) new) ∙ is_callback in
          inl (record { place = place; at = ap (λ (k : ℕ). slice_get r.bank k) this_number ∙ there; there = has ∙ ap Some this_callback })

      stood : BringsNone (whereabouts r) (whereabouts (after_request r line stage n tag callback place))
      stood number other (inl it) = home number other it.place it.there (get-set r.bank n number _ it.place it.at)
      stood number other (inr (inr it)) = inr (inr (record { timer = it.timer; at = it.at; there = it.there; number_is = it.number_is; callback_is = it.callback_is }))
      stood number other (inr (inl it)) = out number other it.stage it.line it.at it.number_is it.callback_is
          (new-requested r.lines line stage (record { number = n; callback = callback }) tag it.stage it.line it.at it.there)

-- a request that isn't refused brings allowed kinds only
pub request_allowed : {X : Type 0} (p : Pipeline X) (line : ℕ) (stage : Stage) (kinds : ℕ) → request_refusal p line stage kinds ≡ None → is_allowed stage kinds ≡ true
request_allowed p line stage kinds = by (nat_lt line line_count) (line == 0) (is_allowed stage kinds) (is_some (installed_at p stage line))
  where
    by : (there clock allowed stands : Bool)
        → (if not there then Some Unknown else (if clock || not allowed then Some Invalid else (if stands then Some Busy else None))) ≡ None → allowed ≡ true
    by false clock allowed stands h = absurd (some-none _ h)
    by true true allowed stands h = absurd (some-none _ h)
    by true false true stands h = refl
    by true false false stands h = absurd (some-none _ h)

module _ {C : Type 0} where
  pub requested_allowed : (r : RecordsView C) (line : ℕ) (stage : Stage) (n tag : ℕ) (callback : C) (place : BankPlace C)
      → slice_get r.bank n ≡ Some place → request_refusal r.lines line stage place.kinds.0 ≡ None
      → AreAllowed (state_of r) → AreAllowed (state_of (after_request r line stage n tag callback place))
  requested_allowed r line stage n tag callback place there none allowed v l at h =
      let s = after_request r line stage n tag callback place in
      let h' = subst (λ (p : Pipeline ℕ). installed_at p v l ≡ Some at) (requested-renamed number_of r.lines line stage (record { number = n; callback = callback }) tag) h in
      subst (λ (k : ℕ). is_allowed v k ≡ true) (sym (kinds-kept r s at.callback (handlers-set r.bank n place _ there refl)))
      (by (new-requested (renamed number_of r.lines) line stage n tag v l at h'))
    where
      kinds_are : kinds_at (state_of r) n ≡ place.kinds.0
      kinds_are = rw (slice_get-map banked r.bank n, there) refl

      by : Stood (renamed number_of r.lines) v l at ⊎ ((v ≡ stage) × (at.callback ≡ n)) → is_allowed v (kinds_at (state_of r) at.callback) ≡ true
      by (inl was) = subst (λ (m : ℕ). is_allowed v (kinds_at (state_of r) m) ≡ true) (sym was.2) (allowed v l was.0 was.1)
      by (inr (same, is)) = subst (λ (u : Stage). is_allowed u (kinds_at (state_of r) at.callback) ≡ true) (sym same)
          (subst (λ (m : ℕ). is_allowed stage (kinds_at (state_of r) m) ≡ true) (sym is)
          (subst (λ (k : ℕ). is_allowed stage k ≡ true) (sym kinds_are) (request_allowed r.lines line stage place.kinds.0 none)))

  pub freed_allowed : (r : RecordsView C) (line : ℕ) (stage : Stage) (at : Installed (Numbered C)) (place : BankPlace C)
      → slice_get r.bank at.callback.number ≡ Some place → AreAllowed (state_of r) → AreAllowed (state_of (after_free r line stage at place))
  freed_allowed r line stage at place there allowed =
      allowed-kept r (after_free r line stage at place) (old-freed r.lines line stage) (handlers-set r.bank at.callback.number place _ there refl) allowed

module _ {C : Type 0} where
  -- what was freed stood on its line, and its place is in the bank
  pub record WasOut (r : RecordsView C) (stage : Stage) (line : ℕ) (numbered : Numbered C) : Type 0 where
    pub at : Installed (Numbered C)
    pub here : installed_at r.lines stage line ≡ Some at
    pub is : at.callback ≡ numbered
    pub place : BankPlace C
    pub there : slice_get r.bank numbered.number ≡ Some place

  pub was_out : (declared : C → ℕ) (plan : C → Plan) (r : RecordsView C) (stage : Stage) (line : ℕ) (numbered : Numbered C)
      → AnswersByPlan declared plan (whereabouts r) → option_map (λ at. at.callback) (installed_at r.lines stage line) ≡ Some numbered
      → WasOut r stage line numbered
  was_out declared plan r stage line numbered answers freed_one = by (installed_at r.lines stage line) refl freed_one
    where
      by : (o : Option (Installed (Numbered C))) → installed_at r.lines stage line ≡ o → option_map (λ at. at.callback) o ≡ Some numbered → WasOut r stage line numbered
      by None here e = absurd (none-some _ e)
      by (Some at) here e =
          let same : at.callback ≡ numbered = same_Some _ _ e in
          let place = place_of declared plan (whereabouts r) numbered.number numbered.callback answers (inr (inl (record {
            stage = stage;
            line = line;
            at = at;
            there = here;
            number_is = ap (λ (n : Numbered C). n.number) same;
            callback_is = ap (λ (n : Numbered C). n.callback) same;
          }))) in
          record { at = at; here = here; is = same; place = place.0; there = place.1 }

  -- the records after a callback came back, under the names of the call that gave it
  abbrev pub back : RecordsView C → ℕ → Stage → Numbered C → BankPlace C → RecordsView C
  back r line stage numbered place = record r {
    bank = slice_set r.bank numbered.number (record place { callback = Some numbered.callback });
    lines = freed r.lines line stage;
  }

  back_is : (r : RecordsView C) (line : ℕ) (stage : Stage) (numbered : Numbered C) (out : WasOut r stage line numbered) → after_free r line stage out.at out.place ≡ back r line stage numbered out.place
  back_is r line stage numbered out = ap (λ (n : Numbered C). back r line stage n out.place) out.is

  at_place : (r : RecordsView C) (line : ℕ) (stage : Stage) (numbered : Numbered C) (out : WasOut r stage line numbered) → slice_get r.bank out.at.callback.number ≡ Some out.place
  at_place r line stage numbered out = ap (λ (n : Numbered C). slice_get r.bank n.number) out.is ∙ out.there

  pub back_state : (r : RecordsView C) (line : ℕ) (stage : Stage) (numbered : Numbered C) (out : WasOut r stage line numbered) → free_refusal r.lines line stage ≡ None
      → line_call.free_line (state_of r) line stage ≡ Ok (Done, state_of (back r line stage numbered out.place))
  back_state r line stage numbered out none =
      freed_state r line stage out.at out.place none out.here (at_place r line stage numbered out) ∙ ap (λ (s : RecordsView C). Ok (Done, state_of s)) (back_is r line stage numbered out)

  pub back_keeps : (r : RecordsView C) (line : ℕ) (stage : Stage) (numbered : Numbered C) (out : WasOut r stage line numbered) → KeepsCallbacks r (back r line stage numbered out.place)
  back_keeps r line stage numbered out = subst (KeepsCallbacks r) (back_is r line stage numbered out) (freed_keeps r line stage out.at out.place out.here (at_place r line stage numbered out))

  pub back_allowed : (r : RecordsView C) (line : ℕ) (stage : Stage) (numbered : Numbered C) (out : WasOut r stage line numbered) → AreAllowed (state_of r) → AreAllowed (state_of (back r line stage numbered out.place))
  back_allowed r line stage numbered out allowed =
      subst (λ (s : RecordsView C). AreAllowed (state_of s)) (back_is r line stage numbered out) (freed_allowed r line stage out.at out.place (at_place r line stage numbered out) allowed)

  -- the place of which the kinds were asked
  pub asked : (bank : List (BankPlace C)) (n : ℕ) (kinds : ActionKinds) → option_map (λ place. place.kinds) (slice_get bank n) ≡ Some kinds
      → (place : BankPlace C) × (slice_get bank n ≡ Some place) × (place.kinds ≡ kinds)
  asked bank n kinds e = by (slice_get bank n) refl e
    where
      by : (o : Option (BankPlace C)) → slice_get bank n ≡ o → option_map (λ place. place.kinds) o ≡ Some kinds → (place : BankPlace C) × (slice_get bank n ≡ Some place) × (place.kinds ≡ kinds)
      by None at e = absurd (none-some _ e)
      by (Some place) at e = (place, at, same_Some _ _ e)

  -- a callback in its place declares what the place says
  pub declared_is : (declared : C → ℕ) (plan : C → Plan) (w : Whereabouts C) (n : ℕ) (place : BankPlace C) (callback : C)
      → AnswersByPlan declared plan w → slice_get w.bank n ≡ Some place → place.callback ≡ Some callback → declared callback ≡ place.kinds.0
  declared_is declared plan w n place callback answers there has =
      let told_here = answers n callback (inl (record { place = place; at = there; there = has })) in
      let same : handler_of place ≡ record { kinds = declared callback; plan = plan callback } =
      same_Some _ _ (sym (slice_get-map handler_of w.bank n ∙ ap (option_map handler_of) there) ∙ told_here) in
      sym (ap (λ (h : Handler). h.kinds) same)
