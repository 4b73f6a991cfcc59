-- Turns without their take and give are whole visits.
use Rattle.std.proofs.Common.{◌≡◌, ◌≢◌, ◌⊎◌, inl, inr, ℕ, ◌<◌, ◌==◌, Bool, true, false, List, [], ◌∷◌, ◌++◌, length, map, refl, sym, ap, ◌∙◌, subst, eq-eqb}
use Rattle.std.specs.Prelude.{Option, Some, None, option_map, slice_index, slice_index_or, if◌then◌else◌}
use Rattle.std.proofs.lemmas.Bool.{eqb-true}
use Rattle.std.proofs.lemmas.List.{length-set}
use Rattle.std.proofs.lemmas.Option.{same_Some, option_and_then_some}
use Rattle.evl_kernel.specs.state.States.{State}
use Rattle.lab_orders.specs.Machines.{led_along}
use Rattle.lab_step_orders.specs.Cores.{use_of, core_after, core_turn, with_core, is_early, take_turn, begun_turn, ended_by, held_turn}
use Rattle.lab_step_orders.specs.Programs.{next_call}
use Rattle.lab_step_orders.specs.Seen.{Seen, after, go, machine, next_ahead, place_after}
use Rattle.lab_step_orders.specs.Visits.{visit_turn}
use Rattle.lab_step_orders.specs.WholeVisits.{NobodyGivesUp, calls_of}
use Rattle.lab_step_orders.proofs.Standing.{set_elsewhere}
use Rattle.lab_step_orders.proofs.WholeSteps.{begins_after, begun_goes, cored, gives, held_goes, led_by, led_on, take_goes, taken_by, whole_goes}
use Rattle.lab_step_orders.proofs.WholeTurns.{AheadSettles, IsAnswered, IsLocal, Ready, alike, ahead_local, ahead_ready, ready_ahead, ready_within, visit_ends}
use Rattle.lab_step_orders.specs.declared.crews.Crew.{Crew}
use Rattle.lab_step_orders.specs.declared.steps.Ahead.{Ahead}
use Rattle.lab_step_orders.specs.declared.steps.Ahead.TheVariants.{Turns, Visits}
use Rattle.lab_step_orders.specs.declared.steps.Asked.{Asked}
use Rattle.lab_step_orders.specs.declared.steps.Asked.TheVariants as asked
use Rattle.lab_step_orders.specs.declared.steps.CoreChange.{CoreChange}
use Rattle.lab_step_orders.specs.declared.steps.CoreChange.TheVariants.{Same, Ends, Gives}
use Rattle.lab_step_orders.specs.declared.steps.CoreUse.{CoreUse}
use Rattle.lab_step_orders.specs.declared.steps.CoreUse.TheVariants.{Whole, Lasts, Tries}
use Rattle.lab_step_orders.specs.declared.steps.Place.{Place}
use Rattle.lab_step_orders.specs.declared.steps.Place.TheVariants.{Begins}
use Rattle.lab_step_orders.specs.declared.steps.Taken.{Taken}
use Rattle.lab_step_orders.specs.declared.steps.Turn.{Turn}

module _ (c : Crew) where
  abbrev pub HasDone : Seen → ℕ → Bool → Type 0
  HasDone s j true = slice_index_or s.places j Begins ≡ Begins
  HasDone s j false = Ready s.state j (slice_index_or s.places j Begins) (next_call c j (slice_index s.made j))

  abbrev pub Holds : Seen → Option Taken → Type 0
  Holds s None = Unit {0}
  Holds s (Some taken) = (taken.who < length c.callers.items) × HasDone s taken.who taken.is_done

  abbrev pub IsHeld : Seen → Type 0
  IsHeld s = (length s.places ≡ length c.callers.items) × Holds s s.core

module _ (c w : Crew) (board : w.board ≡ c.board) (same : map calls_of w.callers.items ≡ map calls_of c.callers.items) (uses : (k made : ℕ) → use_of w k made ≡ Whole) (right : c.what_if ≡ None) where
  abbrev pub LeadsFree : Seen → Seen → Type 0
  LeadsFree s t = IsHeld c t × (order : List ℕ) × (led_along (machine (alike c w)) (cored s None) order ≡ Some (cored t None))

  -- a turn that whole visits have, too, whatever it does to the core
  whole_makes : (s : Seen) (k : ℕ) (turn : Turn) (change : CoreChange) → begun_turn c s.state k Whole false (slice_index_or s.places k Begins) (next_ahead c s k) ≡ Some turn → turn.core ≡ Same
      → led_along (machine (alike c w)) (cored s None) (k ∷ []) ≡ Some (cored (after c s k (with_core change turn)) None)
  whole_makes s k turn change e kept =
      led_by (machine (alike c w)) k [] (cored s None) (cored (after c s k (with_core change turn)) None) (cored (after c s k (with_core change turn)) None)
      (whole_goes c w board same uses right (cored s None) k refl
      ∙ (ap (λ (o : Option Turn). option_map (after c (cored s None) k) o) e
      ∙ ap (λ (x : CoreChange). Some (cored (after c s k turn) (core_after x k None))) kept)) refl

  long_after : (s : Seen) (k : ℕ) (turn : Turn) → length s.places ≡ length c.callers.items → length (after c s k turn).places ≡ length c.callers.items
  long_after s k turn long = length-set s.places k (place_after turn.then) ∙ long

  module _ (s t : Seen) (k : ℕ) (long : length s.places ≡ length c.callers.items) where
    abbrev here : Place
    here = slice_index_or s.places k Begins

    -- a turn that leaves the core free, which whole visits have, too
    freely : (turn : Turn) (change : CoreChange) → begun_turn c s.state k Whole false here (next_ahead c s k) ≡ Some turn → turn.core ≡ Same → after c s k (with_core change turn) ≡ t → core_after change k s.core ≡ None → LeadsFree s t
    freely turn change e same is none =
        subst (λ (u : Seen). LeadsFree s u) is
        ((long_after s k turn long, subst (λ (o : Option Taken). Holds c (after c s k (with_core change turn)) o) (sym none) tt), k ∷ [], whole_makes s k turn change e same)

    -- or one that keeps its caller the core after the visit
    ending : (turn : Turn) → begun_turn c s.state k Whole false here (next_ahead c s k) ≡ Some turn → turn.core ≡ Same → IsAnswered turn → k < length c.callers.items → after c s k (with_core Ends turn) ≡ t → LeadsFree s t
    ending turn e same answers lt is =
        subst (λ (u : Seen). LeadsFree s u) is ((long_after s k turn long, (lt, begins_after c s k turn answers)), k ∷ [], whole_makes s k turn Ends e same)

    local_at : (turn : Turn) → next_ahead c s k ≡ Some (Turns turn) → IsLocal turn
    local_at turn a = ahead_local c s.gates s.mutexes k (slice_index_or s.waits k None) here (next_call c k (slice_index s.made k)) (Turns turn) a

    begun_at : (ahead : Option Ahead) (turn : Turn) → next_ahead c s k ≡ ahead → begun_turn c s.state k Whole false here ahead ≡ Some turn → begun_turn c s.state k Whole false here (next_ahead c s k) ≡ Some turn
    begun_at ahead turn a e = ap (λ (o : Option Ahead). begun_turn c s.state k Whole false here o) a ∙ e

    same_core : (turn : Turn) → turn.core ≡ Same → with_core Same turn ≡ turn
    same_core turn same = ap (λ (x : CoreChange). with_core x turn) (sym same)

    kept : (turn : Turn) → turn.core ≡ Same → after c s k turn ≡ t → after c s k (with_core Same turn) ≡ t
    kept turn same is = ap (λ (x : Turn). after c s k x) (same_core turn same) ∙ is

    -- nobody has the core
    from_free : ((k made : ℕ) → use_of c k made ≢ Tries) → s.core ≡ None → go c s k ≡ Some t → LeadsFree s t
    from_free never at e = by (next_ahead c s k) refl where
      visiting : (visit : Asked) → next_ahead c s k ≡ Some (Visits visit) → (way : CoreUse) → use_of c k (slice_index s.made k) ≡ way → LeadsFree s t
      visiting visit a Tries w = absurd (never k (slice_index s.made k) w)
      visiting visit a Whole w = some (visit_turn c s.state k visit) refl (sym (begun_goes c right s k Whole None (Some (Visits visit)) w at refl a) ∙ e) where
        some : (o : Option Turn) → visit_turn c s.state k visit ≡ o → option_map (after c s k) o ≡ Some t → LeadsFree s t
        some None v q = cc
        some (Some turn) v q =
            let same = (visit_ends c k s.state visit turn v).0 in
            freely turn Same (begun_at (Some (Visits visit)) turn a v) same (kept turn same (same_Some (after c s k turn) t q)) at
      visiting visit a Lasts w = early (is_early s.state k visit) refl where
        early : (b : Bool) → is_early s.state k visit ≡ b → LeadsFree s t
        early true h = absurd (cc_of (sym (begun_goes c right s k Lasts None (Some (Visits visit)) w at refl a ∙ ap (λ (b : Bool). option_map (after c s k) (if b then None else take_turn Lasts false here)) h) ∙ e)) where
          cc_of : None ≡ Some t → ⊥
          cc_of q = cc
        early false h =
            let took = take_goes c right s k Lasts visit w (λ q. cc) at a h in
            let ready = ahead_ready c s.gates s.mutexes k s.state (slice_index_or s.waits k None) here (next_call c k (slice_index s.made k)) visit a h in
            let is = same_Some (taken_by s k) t (sym took ∙ e) in
            subst (λ (u : Seen). LeadsFree s u) is ((long, (ready_within c s.state k s.places (slice_index s.made k) long ready, ready)), [], refl)

      by : (o : Option Ahead) → next_ahead c s k ≡ o → LeadsFree s t
      by None a = absurd (cc_of (sym (begun_goes c right s k (use_of c k (slice_index s.made k)) None None refl at refl a) ∙ e)) where
        cc_of : None ≡ Some t → ⊥
        cc_of q = cc
      by (Some (Turns turn)) a =
          let same = (local_at turn a).0 in
          freely turn Same (begun_at (Some (Turns turn)) turn a refl) same
          (kept turn same (same_Some (after c s k turn) t (sym (begun_goes c right s k (use_of c k (slice_index s.made k)) None (Some (Turns turn)) refl at refl a) ∙ e))) at
      by (Some (Visits visit)) a = visiting visit a (use_of c k (slice_index s.made k)) refl

    -- another has it: a turn without a visit
    behind_another : ((k made : ℕ) → use_of c k made ≢ Tries) → (taken : Taken) → s.core ≡ Some taken → Holds c s (Some taken) → (taken.who == k) ≡ false → taken.who ≢ k → go c s k ≡ Some t → LeadsFree s t
    behind_another never taken at holds has ne e = by (next_ahead c s k) refl where
      done_after : (turn : Turn) → turn.visit ≡ None → (done : Bool) → HasDone c s taken.who done → HasDone c (after c s k turn) taken.who done
      done_after turn none true h = set_elsewhere s.places k taken.who _ Begins ne ∙ h
      done_after turn none false h =
          let place : slice_index_or (after c s k turn).places taken.who Begins ≡ slice_index_or s.places taken.who Begins = set_elsewhere s.places k taken.who _ Begins ne in
          let made : slice_index (after c s k turn).made taken.who ≡ slice_index s.made taken.who = set_elsewhere s.made k taken.who _ 0 ne in
          let state : (after c s k turn).state ≡ s.state = ap (λ o. (after c s k (record turn { visit = o })).state) none in
          subst (λ (p : Place). Ready (after c s k turn).state taken.who p (next_call c taken.who (slice_index (after c s k turn).made taken.who))) (sym place)
          (subst (λ (n : ℕ). Ready (after c s k turn).state taken.who (slice_index_or s.places taken.who Begins) (next_call c taken.who n)) (sym made)
          (subst (λ (x : State). Ready x taken.who (slice_index_or s.places taken.who Begins) (next_call c taken.who (slice_index s.made taken.who))) (sym state) h))

      blocked : None ≡ Some t → LeadsFree s t
      blocked q = cc

      visiting : (visit : Asked) → next_ahead c s k ≡ Some (Visits visit) → (way : CoreUse) → use_of c k (slice_index s.made k) ≡ way → LeadsFree s t
      visiting visit a Tries w = absurd (never k (slice_index s.made k) w)
      visiting visit a Whole w = blocked (sym (begun_goes c right s k Whole (Some taken) (Some (Visits visit)) w at has a) ∙ e)
      visiting visit a Lasts w = blocked (sym (begun_goes c right s k Lasts (Some taken) (Some (Visits visit)) w at has a ∙ both (is_early s.state k visit)) ∙ e) where
        both : (b : Bool) → option_map (after c s k) (if b then None else take_turn Lasts true here) ≡ None
        both true = refl
        both false = refl

      by : (o : Option Ahead) → next_ahead c s k ≡ o → LeadsFree s t
      by None a = blocked (sym (begun_goes c right s k (use_of c k (slice_index s.made k)) (Some taken) None refl at has a) ∙ e)
      by (Some (Visits visit)) a = visiting visit a (use_of c k (slice_index s.made k)) refl
      by (Some (Turns turn)) a =
          let local = local_at turn a in
          let is = same_Some (after c s k turn) t (sym (begun_goes c right s k (use_of c k (slice_index s.made k)) (Some taken) (Some (Turns turn)) refl at has a) ∙ e) in
          let core : (after c s k turn).core ≡ Some taken = ap (λ (x : CoreChange). core_after x k s.core) local.0 ∙ at in
          subst (λ (u : Seen). LeadsFree s u) is (
            (long_after s k turn long, subst (λ (o : Option Taken). Holds c (after c s k turn) o) (sym core) (holds.0, done_after turn local.1 taken.is_done holds.1)),
            k ∷ [],
            whole_makes s k turn Same (begun_at (Some (Turns turn)) turn a refl) local.0 ∙ ap (λ (x : Turn). Some (cored (after c s k x) None)) (same_core turn local.0),
          )

    -- it has it itself
    by_holder : (taken : Taken) → s.core ≡ Some taken → (taken.who == k) ≡ true → k < length c.callers.items → (done : Bool) → taken.is_done ≡ done → HasDone c s k done → go c s k ≡ Some t → LeadsFree s t
    by_holder taken at has lt true done begins e =
        let goes : go c s k ≡ Some (after c s k (core_turn Gives Begins)) =
        held_goes c right s k taken (next_ahead c s k) at has refl ∙ ap (λ (b : Bool). option_map (after c s k) (held_turn c s.state k b (next_ahead c s k))) done in
        let is : cored s None ≡ t = sym (gives c s k begins) ∙ same_Some (after c s k (core_turn Gives Begins)) t (sym goes ∙ e) in
        subst (λ (u : Seen). LeadsFree s u) is ((long, tt), [], refl)
    by_holder taken at has lt false done ready e =
        let settled = ready_ahead c s.gates s.mutexes k s.state (slice_index_or s.waits k None) here (next_call c k (slice_index s.made k)) ready in
        by settled.0 settled.1 settled.2 where
          goes : (ahead : Ahead) → next_ahead c s k ≡ Some ahead → go c s k ≡ option_map (after c s k) (held_turn c s.state k false (Some ahead))
          goes ahead a = held_goes c right s k taken (Some ahead) at has a ∙ ap (λ (b : Bool). option_map (after c s k) (held_turn c s.state k b (Some ahead))) done

          visiting : (visit : Asked) → next_ahead c s k ≡ Some (Visits visit) → (o : Option Turn) → visit_turn c s.state k visit ≡ o → (change : CoreChange) → (change ≡ Gives) ⊎ (change ≡ Ends) → option_map (after c s k) (option_map (with_core change) o) ≡ Some t → LeadsFree s t
          visiting visit a None v change which q = cc
          visiting visit a (Some turn) v change which q =
              let ends = visit_ends c k s.state visit turn v in
              let begun = begun_at (Some (Visits visit)) turn a v in
              let is = same_Some (after c s k (with_core change turn)) t q in
              elim which as (λ w. LeadsFree s t) [
                | inl h ↦ freely turn Gives begun ends.0 (ap (λ (x : CoreChange). after c s k (with_core x turn)) (sym h) ∙ is) refl
                | inr h ↦ ending turn begun ends.0 ends.1 lt (ap (λ (x : CoreChange). after c s k (with_core x turn)) (sym h) ∙ is)
              ]

          which : (v : Asked) → (ended_by v ≡ Gives) ⊎ (ended_by v ≡ Ends)
          which (asked.Step place) = inl refl
          which asked.Finish = inl refl
          which (asked.Hand mutex) = inr refl
          which (asked.Begin mutex until word) = inr refl
          which (asked.End mutex word) = inr refl

          by : (ahead : Ahead) → next_ahead c s k ≡ Some ahead → AheadSettles s.state k ahead → LeadsFree s t
          by (Turns turn) a answers =
              ending turn (begun_at (Some (Turns turn)) turn a refl) (local_at turn a).0 answers lt (same_Some (after c s k (with_core Ends turn)) t (sym (goes (Turns turn) a) ∙ e))
          by (Visits visit) a early = visiting visit a (visit_turn c s.state k visit) refl (ended_by visit) (which visit) (sym (goes (Visits visit) a) ∙ e)

  own_step : NobodyGivesUp c → (s t : Seen) (k : ℕ) → IsHeld c s → go c s k ≡ Some t → LeadsFree s t
  own_step never s t k held e = by s.core refl held.1 where
    one : (taken : Taken) → s.core ≡ Some taken → Holds c s (Some taken) → (b : Bool) → (taken.who == k) ≡ b → LeadsFree s t
    one taken at holds true has =
        let same = eqb-true taken.who k has in
        by_holder s t k held.0 taken at has (subst (λ (n : ℕ). n < length c.callers.items) same holds.0) taken.is_done refl (subst (λ (n : ℕ). HasDone c s n taken.is_done) same holds.1) e
    one taken at holds false has = behind_another s t k held.0 never taken at holds has (λ same. differ (eq-eqb taken.who k same)) e where
      differ : (taken.who == k) ≡ true → ⊥
      differ h = cc

    by : (o : Option Taken) → s.core ≡ o → Holds c s o → LeadsFree s t
    by None at holds = from_free s t k held.0 never at e
    by (Some taken) at holds = one taken at holds (taken.who == k) refl

  pub own_led : NobodyGivesUp c → (order : List ℕ) (s t : Seen) → IsHeld c s → led_along (machine c) s order ≡ Some t → LeadsFree s t
  own_led never [] s t held e = let is = same_Some s t e in (subst (λ (u : Seen). IsHeld c u) is held, [], ap (λ (u : Seen). Some (cored u None)) is)
  own_led never (k ∷ order) s t held e =
      option_and_then_some (λ u. led_along (machine c) u order) (go c s k) t e
      (λ u goes leads.
      let one = own_step never s u k held goes in
      let rest = own_led never order u t one.0 leads in
      (rest.0, one.1 ++ rest.1, led_on (machine (alike c w)) one.1 rest.1 (cored s None) (cored u None) (cored t None) one.2 rest.2))
