-- Each change of a pipeline keeps what is known of every pipeline.
use Rattle.std.proofs.Common.{◌≡◌, ◌≢◌, ℕ, ◌<◌, ◌==◌, Bool, true, false, not, ◌&&◌, ◌||◌, List, length, Option, Some, None, IfNone, IfSome, is_some, slice_index_or, slice_set, refl, sym, ap, ◌∙◌, arith}
use Rattle.std.proofs.lemmas.Bool.{false≢true, eqb-false, eqb-true}
use Rattle.std.proofs.lemmas.List.{get_or-set_same, get_or-set_other, length-set}
use Rattle.evl_base.specs.declared.refusal.Refusal.TheVariants.{Invalid}
use Rattle.evl_base.specs.declared.stage.Stage.{Stage}
use Rattle.evl_base.specs.declared.stage.Stage.TheVariants.{Inband, Oob}
use Rattle.evl_pipeline.specs.declared.answer.Answer.{Answer}
use Rattle.evl_pipeline.specs.declared.fire.Fire.{Fire}
use Rattle.evl_pipeline.specs.declared.plan.Plan.{Plan}
use Rattle.evl_pipeline.specs.Counts.{count_raised}
use Rattle.evl_pipeline.specs.Lines.{Installed, Side, Pipeline, IsSoundSide, IsSoundPipeline, PlaysOn, Taken, callback_on, cleared, emptied, empty_side, filled, has_callback, installed_at, is_pending, logged, opening, played_on, request_refusal, side, with_side}
use Rattle.evl_pipeline.specs.NumberSet.{contains}
use Rattle.evl_pipeline.proofs.NumberSetLaws.{contains-insert, contains-remove, rises-insert, rises-remove}
use Rattle.evl_pipeline.proofs.PortLaws.{at-none, length-counted, none_there, within}
use Rattle.evl_pipeline.specs.Limits.{line_count}

first_false : (a b : Bool) → (not a && b) ≡ true → (a ≡ false) × (b ≡ true)
first_false true b e = absurd (false≢true e)
first_false false b e = (refl, e)

either : (P : Type 0) (a b : Bool) → (a || b) ≡ true → (a ≡ true → P) → (b ≡ true → P) → P
either P true b e left right = left refl
either P false b e left right = right e

or-more : (a b c : Bool) → (a || b) ≡ true → (b ≡ true → c ≡ true) → (a || c) ≡ true
or-more true b c e more = refl
or-more false b c e more = more e

-- a callback that is written, or that is elsewhere
some-set : {A : Type 0} (xs : List (Option A)) (i q : ℕ) (x : A) → is_some (slice_index_or xs q None) ≡ true → is_some (slice_index_or (slice_set xs i (Some x)) q None) ≡ true
some-set {A} xs i q x e =
    elim (q == i) as (λ b. (q == i) ≡ b → is_some (slice_index_or (slice_set xs i (Some x)) q None) ≡ true) [
      | true ↦ λ is. ap (λ k. is_some (slice_index_or (slice_set xs i (Some x)) k None)) (eqb-true q i is)
          ∙ ap is_some (get_or-set_same xs i (Some x) None (inside (slice_index_or xs i None) refl (ap (λ k. is_some (slice_index_or xs k None)) (sym (eqb-true q i is)) ∙ e)))
      | false ↦ λ no. ap is_some (get_or-set_other xs i q (Some x) None (eqb-false q i no)) ∙ e
    ] refl
  where
    inside : (o : Option A) → slice_index_or xs i None ≡ o → is_some o ≡ true → i < length xs
    inside None at e = absurd (false≢true e)
    inside (Some y) at e = within xs i y at

module _ {C : Type 0} where
  -- a line has something to play on a stage with these callbacks
  abbrev has_in : Stage → List (Option (Installed C)) → ℕ → Bool
  has_in Oob installed line = line == 0 || is_some (slice_index_or installed line None)
  has_in Inband installed line = is_some (slice_index_or installed line None)

  has_is : (p : Pipeline C) (stage : Stage) (line : ℕ) → has_callback p stage line ≡ has_in stage (side p stage).installed line
  has_is p Oob line = refl
  has_is p Inband line = refl

  has-more : (stage : Stage) (old new : List (Option (Installed C))) (line : ℕ) → has_in stage old line ≡ true
      → (is_some (slice_index_or old line None) ≡ true → is_some (slice_index_or new line None) ≡ true) → has_in stage new line ≡ true
  has-more Oob old new line e more = or-more (line == 0) _ _ e more
  has-more Inband old new line e more = more e

  sound-with : (p : Pipeline C) (stage : Stage) (s : Side C) → IsSoundPipeline p → IsSoundSide s
      → ((line : ℕ) → contains s.pending line ≡ true → has_in stage s.installed line ≡ true) → IsSoundPipeline (with_side p stage s)
  sound-with p Oob s h is has = record {
    sides = λ v. elim v as (λ v. IsSoundSide (side (with_side p Oob s) v)) [ Oob ↦ is | Inband ↦ h.sides Inband ];
    counts = h.counts;
    stands = λ v. elim v as (λ v. (line : ℕ) → is_pending (with_side p Oob s) v line ≡ true → has_callback (with_side p Oob s) v line ≡ true) [ Oob ↦ has | Inband ↦ h.stands Inband ];
  }
  sound-with p Inband s h is has = record {
    sides = λ v. elim v as (λ v. IsSoundSide (side (with_side p Inband s) v)) [ Oob ↦ h.sides Oob | Inband ↦ is ];
    counts = h.counts;
    stands = λ v. elim v as (λ v. (line : ℕ) → is_pending (with_side p Inband s) v line ≡ true → has_callback (with_side p Inband s) v line ≡ true) [ Oob ↦ h.stands Oob | Inband ↦ has ];
  }

  -- what is pending has a callback
  has : (p : Pipeline C) (stage : Stage) → IsSoundPipeline p → (line : ℕ) → contains (side p stage).pending line ≡ true → has_in stage (side p stage).installed line ≡ true
  has p stage h line e = sym (has_is p stage line) ∙ h.stands stage line e

  -- a line with a callback is not the clock's, unless it is line 0
  pub not_clock : (p : Pipeline C) (stage : Stage) (line : ℕ) (at : Installed C) → IsSoundPipeline p → installed_at p stage line ≡ Some at → line ≢ 0
  not_clock p stage line at h e zero = none_there (callback_on (side p stage) 0) at (h.sides stage).clock (ap (callback_on (side p stage)) (sym zero) ∙ e)

  sound-empty : IsSoundSide (empty_side {C = C})
  sound-empty = record { lines = refl; counts = refl; rises = tt; clock = at-none line_count 0 }

  pub sound-opening : IsSoundPipeline (opening {C = C})
  unfolding opening
  sound-opening = record {
    sides = λ v. elim v as (λ v. IsSoundSide (side (opening {C = C}) v)) [ Oob ↦ sound-empty | Inband ↦ sound-empty ];
    counts = refl;
    stands = λ v. elim v as (λ v. (line : ℕ) → is_pending (opening {C = C}) v line ≡ true → has_callback (opening {C = C}) v line ≡ true)
        [ Oob ↦ λ line e. absurd (false≢true e) | Inband ↦ λ line e. absurd (false≢true e) ];
  }

  pub sound-set_stalled : (p : Pipeline C) (stage : Stage) (b : Bool) → IsSoundPipeline p → IsSoundPipeline (with_side p stage (record (side p stage) { stalled = b }))
  sound-set_stalled p stage b h =
      let s = h.sides stage in
      sound-with p stage _ h (record { lines = s.lines; counts = s.counts; rises = s.rises; clock = s.clock }) (has p stage h)

  pub sound-spurious : (p : Pipeline C) (line : ℕ) → IsSoundPipeline p → IsSoundPipeline (record p { spurious = count_raised p.spurious line })
  sound-spurious p line h = record {
    sides = λ v. elim v as (λ v. IsSoundSide (side (record p { spurious = count_raised p.spurious line }) v)) [ Oob ↦ h.sides Oob | Inband ↦ h.sides Inband ];
    counts = length-set p.spurious line _ ∙ h.counts;
    stands = λ v. elim v as (λ v. (other : ℕ) → is_pending (record p { spurious = count_raised p.spurious line }) v other ≡ true → has_callback (record p { spurious = count_raised p.spurious line }) v other ≡ true)
        [ Oob ↦ h.stands Oob | Inband ↦ h.stands Inband ];
  }

  pub sound-logged : (p : Pipeline C) (stage : Stage) (line : ℕ) → IsSoundPipeline p → line < line_count → has_callback p stage line ≡ true
      → IsSoundPipeline (with_side p stage (logged (side p stage) line))
  sound-logged p stage line h below there =
      let s = h.sides stage in
      sound-with p stage _ h (record { lines = s.lines; counts = s.counts; rises = rises-insert 0 line_count line _ s.rises (omega arith) below; clock = s.clock })
      (λ other e. either (has_in stage (side p stage).installed other ≡ true) (line == other) (contains (side p stage).pending other) (sym (contains-insert (side p stage).pending line other) ∙ e)
      (λ is. ap (has_in stage (side p stage).installed) (sym (eqb-true line other is)) ∙ sym (has_is p stage line) ∙ there)
      (has p stage h other))

  pub sound-cleared : (p : Pipeline C) (stage : Stage) (line : ℕ) → IsSoundPipeline p → IsSoundPipeline (with_side p stage (cleared (side p stage) line))
  sound-cleared p stage line h =
      let s = h.sides stage in
      sound-with p stage _ h (record { lines = s.lines; counts = s.counts; rises = rises-remove 0 line_count line _ s.rises; clock = s.clock })
      (λ other e. has p stage h other (first_false (line == other) _ (sym (contains-remove (side p stage).pending line other) ∙ e)).1)

  pub sound-filled : (p : Pipeline C) (stage : Stage) (line : ℕ) (callback : C) (tag : ℕ) → IsSoundPipeline p → line ≢ 0
      → IsSoundPipeline (with_side p stage (filled (side p stage) line callback tag))
  sound-filled p stage line callback tag h ne =
      let s = h.sides stage in
      sound-with p stage _ h (record {
        lines = length-set (side p stage).installed line _ ∙ s.lines;
        counts = s.counts;
        rises = s.rises;
        clock = get_or-set_other (side p stage).installed line 0 _ None (λ e. ne (sym e)) ∙ s.clock;
      })
      (λ other e. has-more stage (side p stage).installed _ other (has p stage h other e) (some-set (side p stage).installed line other _))

  pub sound-played : (p : Pipeline C) (stage : Stage) (line : ℕ) (at : Installed C) (handled : Bool) → IsSoundPipeline p → installed_at p stage line ≡ Some at
      → IsSoundPipeline (with_side p stage (played_on (side p stage) line at handled))
  sound-played p stage line at handled h there =
      let s = h.sides stage in let ne = not_clock p stage line at h there in
      sound-with p stage _ h (record {
        lines = length-set (side p stage).installed line _ ∙ s.lines;
        counts = length-counted handled (side p stage).unhandled line ∙ s.counts;
        rises = rises-remove 0 line_count line _ s.rises;
        clock = get_or-set_other (side p stage).installed line 0 _ None (λ e. ne (sym e)) ∙ s.clock;
      })
      (λ other e. has-more stage (side p stage).installed _ other
      (has p stage h other (first_false (line == other) _ (sym (contains-remove (side p stage).pending line other) ∙ e)).1)
      (some-set (side p stage).installed line other _))

  pub sound-emptied : (p : Pipeline C) (stage : Stage) (line : ℕ) → IsSoundPipeline p → line ≢ 0 → IsSoundPipeline (with_side p stage (emptied (side p stage) line))
  sound-emptied p stage line h ne =
      let s = h.sides stage in
      sound-with p stage _ h (record {
        lines = length-set (side p stage).installed line _ ∙ s.lines;
        counts = s.counts;
        rises = rises-remove 0 line_count line _ s.rises;
        clock = get_or-set_other (side p stage).installed line 0 None None (λ e. ne (sym e)) ∙ s.clock;
      })
      (λ other e.
      let left = first_false (line == other) _ (sym (contains-remove (side p stage).pending line other) ∙ e) in
      has-more stage (side p stage).installed _ other (has p stage h other left.1)
      (λ some. ap is_some (get_or-set_other (side p stage).installed line other None None (λ q. eqb-false line other left.0 (sym q))) ∙ some))

  -- a stage after a line of it was played, or after its event was taken where there is no callback
  pub sound-stepped : (p : Pipeline C) (stage : Stage) (line now : ℕ) (declared : C → ℕ) (plan : C → Plan) (gives : C → Fire → Answer → Type 0) (ran : Option (Fire × Answer)) (s : Side C) → IsSoundPipeline p
      → IfNone ran ((installed_at p stage line ≡ None) × (s ≡ cleared (side p stage) line))
      → IfSome ran (λ r. PlaysOn declared plan gives (side p stage) stage line now r.0 r.1 s)
      → IsSoundPipeline (with_side p stage s)
  sound-stepped p stage line now declared plan gives None s h none some = rw none.1 (sound-cleared p stage line h)
  sound-stepped p stage line now declared plan gives (Some r) s h none some = rw some.after (sound-played p stage line some.at r.1.handled h some.stands)

  -- a stage after the callback of a line was taken, where one stood
  pub sound-taken : (p : Pipeline C) (stage : Stage) (line : ℕ) (taken : Option C) (s : Side C) → IsSoundPipeline p → line ≢ 0
      → IfNone taken ((installed_at p stage line ≡ None) × (s ≡ side p stage))
      → IfSome taken (λ callback. Taken (side p stage) line callback s)
      → IsSoundPipeline (with_side p stage s)
  sound-taken p stage line None s h ne none some = sound-with p stage s h (rw none.1 (h.sides stage)) (rw none.1 (has p stage h))
  sound-taken p stage line (Some callback) s h ne none some = rw some.after (sound-emptied p stage line h ne)

  -- a line that has something to play and no callback is the clock's
  pub clock-only : (p : Pipeline C) (stage : Stage) (line : ℕ) → has_callback p stage line ≡ true → installed_at p stage line ≡ None → (stage ≡ Oob) × (line ≡ 0)
  clock-only p Oob line e none = (refl, either (line ≡ 0) (line == 0) _ e (eqb-true line 0) (λ some. absurd (false≢true (sym (ap is_some none) ∙ some))))
  clock-only p Inband line e none = absurd (false≢true (sym (ap is_some none) ∙ e))

  -- line 0 is refused
  pub request-not_clock : (p : Pipeline C) (line : ℕ) (stage : Stage) (kinds : ℕ) → request_refusal p line stage kinds ≡ None → line ≢ 0
  request-not_clock p line stage kinds none zero = none_there None Invalid refl (sym none ∙ ap (λ l. request_refusal p l stage kinds) zero)
