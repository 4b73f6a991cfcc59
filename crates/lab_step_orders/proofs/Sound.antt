-- Wherever the callers' steps lead, a world lies over each word.
use Rattle.std.proofs.Common.{◌≡◌, ◌≢◌, ◌⊎◌, inl, inr, ℕ, zero, suc, ◌<◌, Bool, true, false, List, [], ◌∷◌, length, get_or, set, refl, sym, ap, ◌∙◌, subst, arith}
use Rattle.std.specs.Prelude.{All, if◌then◌else◌, Option, Some, None, is_some, option_map, slice_get, slice_index, slice_index_or, slice_set}
use Rattle.std.specs.Option.{option_map_or}
use Rattle.std.proofs.lemmas.List.{length-set}
use Rattle.std.proofs.lemmas.List.Elements.{All-head, All-tail}
use Rattle.std.proofs.lemmas.Option.{same_Some, option_and_then_some}
use mathlib.Core.Logic.{dite}
use native.Mathlib.Decide.{ℕ_discrete}
use Rattle.evl_base.specs.declared.stage.Stage.{Stage}
use Rattle.evl_words.specs.GateWord.{word_refusal}
use Rattle.evl_words.specs.GateWorld.{GateView, GateWorld, hold, step_may as gate_may}
use Rattle.evl_words.specs.MutexWorld.{MutexWorld, owns}
use Rattle.evl_words.specs.declared.gate.GateHold.{GateHold}
use Rattle.evl_words.specs.declared.mutex.MutexRole.TheVariants.{Bystander}
use Rattle.lab_orders.specs.Machines.{led_along}
use Rattle.lab_step_orders.specs.Cores.{use_of}
use Rattle.lab_step_orders.specs.Programs.{limit_of, stage_of, next_call}
use Rattle.lab_step_orders.specs.Seen.{Seen, after, changed_at, gates_after, mutexes_after, go, machine, next_turn, place_after}
use Rattle.lab_step_orders.specs.StepLaws.{LiesAtGate, LiesAtMutex, held_stage}
use Rattle.lab_step_orders.specs.Words.{Shared, holds, gate_after, gate_kind, mutex_after, mutex_view}
use Rattle.lab_step_orders.proofs.Standing.{gate_moves, mutex_moves, set_here, set_elsewhere}
use Rattle.lab_step_orders.proofs.Turns.{GateMay, StepMay, PlaceMay, ThenMay, May, turn_may}
use Rattle.lab_step_orders.specs.declared.crews.Crew.{Crew}
use Rattle.lab_step_orders.specs.declared.steps.GateStep.{GateStep}
use Rattle.lab_step_orders.specs.declared.steps.GateStep.TheVariants.{Look, Exchange, Leave, Claim, Unclaim}
use Rattle.lab_step_orders.specs.declared.steps.MutexStep.{MutexStep}
use Rattle.lab_step_orders.specs.declared.steps.MutexStep.TheVariants.{Unlock}
use Rattle.lab_step_orders.specs.declared.steps.Place.{Place}
use Rattle.lab_step_orders.specs.declared.steps.Place.TheVariants.{Begins, Found, Left as LeftStax, Claimed}
use Rattle.lab_step_orders.specs.declared.steps.Then.{Then}
use Rattle.lab_step_orders.specs.declared.steps.Then.TheVariants.{Stands, Answers}
use Rattle.lab_step_orders.specs.declared.steps.Turn.{Turn}
use Rattle.lab_step_orders.specs.declared.steps.WordStep.{WordStep}
use Rattle.lab_step_orders.specs.declared.steps.WordStep.TheVariants.{AtGate, AtMutex}

-- ---- an element of a list in which one was changed

set_at : {A : Type 0} (xs : List A) (i j : ℕ) (y z : A) → slice_get (slice_set xs i y) j ≡ Some z → (j ≡ i) × (y ≡ z) ⊎ ((j ≢ i) × (slice_get xs j ≡ Some z))
set_at [] i j y z e = cc
set_at (x ∷ xs) zero zero y z e = inl (refl, same_Some y z e)
set_at (x ∷ xs) zero (suc j) y z e = inr ((λ h. omega arith), e)
set_at (x ∷ xs) (suc i) zero y z e = inr ((λ h. omega arith), e)
set_at (x ∷ xs) (suc i) (suc j) y z e =
    elim (set_at xs i j y z e) as (λ v. ((suc j ≡ suc i) × (y ≡ z)) ⊎ ((suc j ≢ suc i) × (slice_get xs j ≡ Some z))) [
      | inl h ↦ inl (ap suc h.0, h.1)
      | inr h ↦ let ne = h.0 in inr ((λ q. ne (omega arith)), h.1)
    ]

-- it is what was changed, or one that was there
changed_is : {A : Type 0} (f : A → A) (xs : List A) (i j : ℕ) (z : A) → slice_get (changed_at f i xs) j ≡ Some z
    → ((x : A) × (slice_get xs j ≡ Some x) × (j ≡ i) × (z ≡ f x)) ⊎ ((j ≢ i) × (slice_get xs j ≡ Some z))
changed_is {A} f xs i j z e = by (slice_get xs i) refl e where
  by : (o : Option A) → slice_get xs i ≡ o → slice_get (option_map_or (λ x. slice_set xs i (f x)) o xs) j ≡ Some z
      → ((x : A) × (slice_get xs j ≡ Some x) × (j ≡ i) × (z ≡ f x)) ⊎ ((j ≢ i) × (slice_get xs j ≡ Some z))
  by None at h = inr ((λ (q : j ≡ i). cc (q, at, h)), h)
  by (Some x) at h =
      elim (set_at xs i j (f x) z h) as (λ v. ((x : A) × (slice_get xs j ≡ Some x) × (j ≡ i) × (z ≡ f x)) ⊎ ((j ≢ i) × (slice_get xs j ≡ Some z))) [
        | inl q ↦ inl (x, ap (λ (n : ℕ). slice_get xs n) q.0 ∙ at, q.0, sym q.1)
        | inr q ↦ inr q
      ]

-- ---- what holds at each moment

pub record IsSound (c : Crew) (s : Seen) : Type 0 where
  pub gates : (i : ℕ) (g : Shared) → slice_get s.gates i ≡ Some g → (w : GateWorld) × LiesAtGate c i g w
  pub mutexes : (i : ℕ) (m : Shared) → slice_get s.mutexes i ≡ Some m → (w : MutexWorld) × LiesAtMutex (length c.callers.items) m w
  pub long : length s.places ≡ length c.callers.items
  pub places : (k : ℕ) → PlaceMay c s.gates s.mutexes k (slice_index_or s.places k Begins)

gate_allows : (limit : ℕ) (stage : Stage) (h : Bool) (k : ℕ) (step : GateStep) → GateMay limit stage h step → (v : GateView) → v.held ≡ hold limit (held_stage stage h) → gate_may k v (gate_kind stage step)
gate_allows limit stage h k Look e v is = ap (λ (z : GateHold). z.stage) is ∙ ap (λ b. held_stage stage b) e
gate_allows limit stage h k (Exchange old) e v is = (ap (λ (z : GateHold). z.stage) is ∙ ap (λ b. held_stage stage b) e.0, ap (λ (z : GateHold). word_refusal z.limit old stage) is ∙ e.1)
gate_allows limit stage h k Leave e v is = ap (λ (o : Option Stage). is_some o) (ap (λ (z : GateHold). z.stage) is ∙ ap (λ b. held_stage stage b) e)
gate_allows limit stage h k Claim e v is = tt
gate_allows limit stage h k Unclaim e v is = tt

module _ (c : Crew) (s : Seen) (sound : IsSound c s) (k : ℕ) (lt : k < length c.callers.items) where
  gates_stand : (step : Option WordStep) → StepMay c s.gates s.mutexes k step → (i : ℕ) (g : Shared) → slice_get (gates_after c k step s.gates) i ≡ Some g
      → (w : GateWorld) × LiesAtGate c i g w
  gates_stand None may i g e = sound.gates i g e
  gates_stand (Some (AtMutex mutex step)) may i g e = sound.gates i g e
  gates_stand (Some (AtGate stax step)) may i g e =
      elim (changed_is (gate_after (limit_of c stax.0) (stage_of c k) k step) s.gates stax.0 i g e) as (λ v. (w : GateWorld) × LiesAtGate c i g w) [
        | inl h ↦
            let old = h.0 in
            let was = sound.gates i old h.1 in
            let there : slice_get s.gates stax.0 ≡ Some old = ap (λ (n : ℕ). slice_get s.gates n) (sym h.2) ∙ h.1 in
            let lies : LiesAtGate c stax.0 old was.0 = subst (λ (n : ℕ). LiesAtGate c n old was.0) h.2 was.1 in
            let moved = gate_moves c stax.0 old was.0 lies k lt step (gate_allows (limit_of c stax.0) (stage_of c k) (holds old k) k step (may old there)) in
            subst (λ (n : ℕ). (w : GateWorld) × LiesAtGate c n g w) (sym h.2)
            (subst (λ (x : Shared). (w : GateWorld) × LiesAtGate c stax.0 x w) (sym h.3) moved)
        | inr h ↦ sound.gates i g h.1
      ]

  mutexes_stand : (step : Option WordStep) → StepMay c s.gates s.mutexes k step → (i : ℕ) (m : Shared) → slice_get (mutexes_after k step s.mutexes) i ≡ Some m
      → (w : MutexWorld) × LiesAtMutex (length c.callers.items) m w
  mutexes_stand None may i m e = sound.mutexes i m e
  mutexes_stand (Some (AtGate stax step)) may i m e = sound.mutexes i m e
  mutexes_stand (Some (AtMutex mutex step)) may i m e =
      elim (changed_is (mutex_after k step) s.mutexes mutex.0 i m e) as (λ v. (w : MutexWorld) × LiesAtMutex (length c.callers.items) m w) [
        | inl h ↦
            let old = h.0 in
            let was = sound.mutexes i old h.1 in
            let there : slice_get s.mutexes mutex.0 ≡ Some old = ap (λ (n : ℕ). slice_get s.mutexes n) (sym h.2) ∙ h.1 in
            let moved = mutex_moves (length c.callers.items) old was.0 was.1 k lt step (may old there) in
            subst (λ (x : Shared). (w : MutexWorld) × LiesAtMutex (length c.callers.items) x w) (sym h.3) moved
        | inr h ↦ sound.mutexes i m h.1
      ]

  -- what another caller holds stays
  others_stay : (step : Option WordStep) (j : ℕ) → j ≢ k → (i : ℕ) (g : Shared) → slice_get (gates_after c k step s.gates) i ≡ Some g
      → (z : Shared) × (slice_get s.gates i ≡ Some z) × (holds g j ≡ holds z j)
  others_stay None j ne i g e = (g, e, refl)
  others_stay (Some (AtMutex mutex step)) j ne i g e = (g, e, refl)
  others_stay (Some (AtGate stax step)) j ne i g e =
      elim (changed_is (gate_after (limit_of c stax.0) (stage_of c k) k step) s.gates stax.0 i g e) as (λ v. (z : Shared) × (slice_get s.gates i ≡ Some z) × (holds g j ≡ holds z j)) [
        | inl h ↦ (h.0, h.1, ap (λ (x : Shared). holds x j) h.3 ∙ set_elsewhere h.0.held k j _ false ne)
        | inr h ↦ (g, h.1, refl)
      ]

  mutexes_stay : (step : Option WordStep) (j : ℕ) → j ≢ k → (i : ℕ) (m : Shared) → slice_get (mutexes_after k step s.mutexes) i ≡ Some m
      → (z : Shared) × (slice_get s.mutexes i ≡ Some z) × (holds m j ≡ holds z j)
  mutexes_stay None j ne i m e = (m, e, refl)
  mutexes_stay (Some (AtGate stax step)) j ne i m e = (m, e, refl)
  mutexes_stay (Some (AtMutex mutex step)) j ne i m e =
      elim (changed_is (mutex_after k step) s.mutexes mutex.0 i m e) as (λ v. (z : Shared) × (slice_get s.mutexes i ≡ Some z) × (holds m j ≡ holds z j)) [
        | inl h ↦ (h.0, h.1, ap (λ (x : Shared). holds x j) h.3 ∙ set_elsewhere h.0.held k j _ false ne)
        | inr h ↦ (m, h.1, refl)
      ]

  other_may : (step : Option WordStep) (j : ℕ) → j ≢ k → (place : Place) → PlaceMay c s.gates s.mutexes j place
      → PlaceMay c (gates_after c k step s.gates) (mutexes_after k step s.mutexes) j place
  other_may step j ne Begins may = tt
  other_may step j ne (LeftStax stax) may = tt
  other_may step j ne (Claimed mutex) may = λ m e. let was = mutexes_stay step j ne mutex.0 m e in was.2 ∙ may was.0 was.1
  other_may step j ne (Found stax old) may = λ g e. let was = others_stay step j ne stax.0 g e in let had = may was.0 was.1 in (was.2 ∙ had.0, had.1)

  -- a look changes nothing that its caller holds
  look_stays : (stage : Stage) (b : Bool) → b ≡ false → is_some (held_stage stage b) ≡ false
  look_stays stage false e = refl
  look_stays stage true e = e

  own_may : (step : Option WordStep) (next : Then) → ThenMay c s.gates s.mutexes k step next
      → PlaceMay c (gates_after c k step s.gates) (mutexes_after k step s.mutexes) k (place_after next)
  own_may step (Answers answer) may = tt
  own_may None (Stands place) may = may
  own_may (Some step) (Stands Begins) may = tt
  own_may (Some step) (Stands (LeftStax stax)) may = tt
  own_may (Some step) (Stands (Claimed mutex)) may =
      subst (λ (o : WordStep). PlaceMay c (gates_after c k (Some o) s.gates) (mutexes_after k (Some o) s.mutexes) k (Claimed mutex)) (sym may.0) (λ m e.
      elim (changed_is (mutex_after k Unlock) s.mutexes mutex.0 mutex.0 m e) as (λ v. holds m k ≡ true) [
        | inl h ↦
            let had = may.1 h.0 h.1 in
            let near : k < length h.0.held = omega (arith, lt, (sound.mutexes mutex.0 h.0 h.1).1.wide) in
            ap (λ (x : Shared). holds x k) h.3
            ∙ (set_here h.0.held k _ false near
            ∙ (ap (λ t. owns (if t then Bystander else (mutex_view (holds h.0 k)).held.role)) had.1
            ∙ ap (λ b. owns (mutex_view b).held.role) had.0))
        | inr h ↦ (may.1 m h.1).0
      ])
  own_may (Some step) (Stands (Found stax old)) may =
      subst (λ (o : WordStep). PlaceMay c (gates_after c k (Some o) s.gates) (mutexes_after k (Some o) s.mutexes) k (Found stax old)) (sym may.0) (λ g e.
      elim (changed_is (gate_after (limit_of c stax.0) (stage_of c k) k Look) s.gates stax.0 stax.0 g e) as (λ v. (holds g k ≡ false) × (word_refusal (limit_of c stax.0) old (stage_of c k) ≡ None)) [
        | inl h ↦
            let had = may.1 h.0 h.1 in
            let near : k < length h.0.held = omega (arith, lt, (sound.gates stax.0 h.0 h.1).1.wide) in
            (ap (λ (x : Shared). holds x k) h.3 ∙ (set_here h.0.held k _ false near ∙ look_stays (stage_of c k) (holds h.0 k) had.0), had.1)
        | inr h ↦ may.1 g h.1
      ])

  turn_sound : (turn : Turn) → May c s.gates s.mutexes k turn → IsSound c (after c s k turn)
  turn_sound turn may = record {
    gates = gates_stand turn.step may.0;
    mutexes = mutexes_stand turn.step may.0;
    long = length-set s.places k (place_after turn.then) ∙ sound.long;
    places = λ j. dite (ℕ_discrete j k)
        (λ (same : j ≡ k).
        let here : get_or (set s.places k (place_after turn.then)) k Begins ≡ place_after turn.then = set_here s.places k (place_after turn.then) Begins (omega (arith, lt, sound.long)) in
        subst (λ (l : ℕ). PlaceMay c (gates_after c k turn.step s.gates) (mutexes_after k turn.step s.mutexes) l (get_or (set s.places k (place_after turn.then)) l Begins)) (sym same)
        (subst (λ (p : Place). PlaceMay c (gates_after c k turn.step s.gates) (mutexes_after k turn.step s.mutexes) k p) (sym here) (own_may turn.step turn.then may.1)))
        (λ (ne : j ≢ k).
        subst (λ (p : Place). PlaceMay c (gates_after c k turn.step s.gates) (mutexes_after k turn.step s.mutexes) j p) (sym (set_elsewhere s.places k j (place_after turn.then) Begins ne))
        (other_may turn.step j ne (get_or s.places j Begins) (sound.places j)));
  }

  pub go_sound : (t : Seen) → go c s k ≡ Some t → IsSound c t
  go_sound t e = by (next_turn c s k) refl e where
    by : (o : Option Turn) → next_turn c s k ≡ o → option_map (after c s k) o ≡ Some t → IsSound c t
    by None at h = cc
    by (Some turn) at h = subst (λ (u : Seen). IsSound c u) (same_Some (after c s k turn) t h)
        (turn_sound turn (turn_may c s.gates s.mutexes k s.state (use_of c k (slice_index s.made k)) s.core (slice_index_or s.waits k None) (slice_index_or s.places k Begins) (sound.places k) (next_call c k (slice_index s.made k)) turn at))

-- along any order
pub led_sound : (c : Crew) (order : List ℕ) (s t : Seen) → IsSound c s → All (λ k. k < length c.callers.items) order → led_along (machine c) s order ≡ Some t → IsSound c t
led_sound c [] s t sound all e = subst (λ (u : Seen). IsSound c u) (same_Some s t e) sound
led_sound c (k ∷ order) s t sound all e =
    option_and_then_some (λ u. led_along (machine c) u order) (go c s k) t e
    (λ u goes leads. led_sound c order u t (go_sound c s sound k (All-head (λ (j : ℕ). j < length c.callers.items) k order all) u goes) (All-tail (λ (j : ℕ). j < length c.callers.items) k order all) leads)
