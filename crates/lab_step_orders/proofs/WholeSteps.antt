-- Each whole visit is a take, a visit and a give.
use Rattle.std.proofs.Common.{◌≡◌, ◌≢◌, ◌⊎◌, inl, inr, ℕ, zero, suc, ◌<◌, ◌==◌, ◌&&◌, Bool, true, false, List, [], ◌∷◌, ◌++◌, map, get_or, set, refl, sym, ap, ◌∙◌, subst, arith, eq-eqb}
use Rattle.std.specs.Prelude.{Option, Some, None, is_none, is_some, option_and_then, option_map, slice_index, slice_index_or, if◌then◌else◌}
use Rattle.std.specs.List.{list_all}
use Rattle.std.specs.Option.{option_map_or}
use Rattle.std.proofs.lemmas.Bool.{and_parts}
use Rattle.std.proofs.lemmas.List.{set-get_or}
use Rattle.std.proofs.lemmas.Option.{same_Some, option_and_then_some}
use mathlib.Core.Logic.{dite}
use native.Mathlib.Decide.{ℕ_discrete}
use Rattle.lab_orders.specs.Machines.{Machine, led_along, numbers_below}
use Rattle.lab_step_orders.specs.Cores.{use_of, has_core, core_after, core_turn, with_core, is_early, take_turn, visit_begun, begun_turn, ended_by, held_turn, turn_of}
use Rattle.lab_step_orders.specs.Programs.{next_call}
use Rattle.lab_step_orders.specs.Seen.{Seen, after, go, machine, next_ahead, next_turn, place_after}
use Rattle.lab_step_orders.specs.Visits.{visit_turn}
use Rattle.lab_step_orders.specs.WholeVisits.{calls_of}
use Rattle.lab_step_orders.specs.Wrongs.{made_so}
use Rattle.lab_step_orders.proofs.WholeTurns.{IsAnswered, after_is, alike, ahead_is, ahead_local, begun_is, early_none, visit_ends}
use Rattle.lab_step_orders.specs.declared.crews.Crew.{Crew}
use Rattle.lab_step_orders.specs.declared.steps.Ahead.{Ahead}
use Rattle.lab_step_orders.specs.declared.steps.Ahead.TheVariants.{Turns, Visits}
use Rattle.lab_step_orders.specs.declared.steps.Asked.{Asked}
use Rattle.lab_step_orders.specs.declared.steps.Asked.TheVariants as asked
use Rattle.lab_step_orders.specs.declared.steps.CoreChange.{CoreChange}
use Rattle.lab_step_orders.specs.declared.steps.CoreChange.TheVariants.{Same, Takes, Ends, Gives}
use Rattle.lab_step_orders.specs.declared.steps.CoreUse.{CoreUse}
use Rattle.lab_step_orders.specs.declared.steps.CoreUse.TheVariants.{Whole, Lasts, Tries}
use Rattle.lab_step_orders.specs.declared.steps.Place.{Place}
use Rattle.lab_step_orders.specs.declared.steps.Place.TheVariants.{Begins}
use Rattle.lab_step_orders.specs.declared.steps.Taken.{Taken}
use Rattle.lab_step_orders.specs.declared.steps.Then.{Then}
use Rattle.lab_step_orders.specs.declared.steps.Turn.{Turn}
use Rattle.lab_step_orders.specs.declared.steps.Waiting.{Waiting}
use Rattle.lab_step_orders.specs.declared.steps.WhatIf.{WhatIf}

-- ---- lists

-- one order of callers after the other
pub led_on : {S : Type 0} (m : Machine S) (order more : List ℕ) (s t u : S) → led_along m s order ≡ Some t → led_along m t more ≡ Some u → led_along m s (order ++ more) ≡ Some u
led_on {S} m [] more s t u one other = subst (λ (z : S). led_along m z more ≡ Some u) (sym (same_Some s t one)) other
led_on {S} m (k ∷ order) more s t u one other =
    option_and_then_some (λ z. led_along m z order) (m.go s k) t one
    (λ z goes leads. ap (λ (o : Option S). option_and_then (λ v. led_along m v (order ++ more)) o) goes ∙ led_on m order more z t u leads other)

pub led_by : {S : Type 0} (m : Machine S) (k : ℕ) (order : List ℕ) (s t u : S) → m.go s k ≡ Some t → led_along m t order ≡ Some u → led_along m s (k ∷ order) ≡ Some u
led_by {S} m k order s t u goes leads = ap (λ (o : Option S). option_and_then (λ v. led_along m v order) o) goes ∙ leads

pub all_so : (p q : ℕ → Bool) → ((k : ℕ) → p k ≡ true → q k ≡ true) → (xs : List ℕ) → list_all p xs ≡ true → list_all q xs ≡ true
all_so p q so [] e = refl
all_so p q so (k ∷ xs) e =
    let parts = and_parts (p k) (list_all p xs) e in
    ap (λ (b : Bool). b && list_all q xs) (so k parts.0) ∙ all_so p q so xs parts.1

pub all_at : (p : ℕ → Bool) (n k : ℕ) → k < n → list_all p (numbers_below n) ≡ true → p k ≡ true
all_at p zero k lt e = absurd (omega arith)
all_at p (suc n) k lt e = by (split (numbers_below n) e) (all_at p n k) where
  split : (xs : List ℕ) → list_all p (xs ++ n ∷ []) ≡ true → (list_all p xs ≡ true) × (p n ≡ true)
  split [] h = ((refl), (and_parts (p n) true h).0)
  split (x ∷ xs) h =
      let parts = and_parts (p x) (list_all p (xs ++ n ∷ [])) h in
      let rest = split xs parts.1 in
      (ap (λ (b : Bool). b && list_all p xs) parts.0 ∙ rest.0, rest.1)

  by : (list_all p (numbers_below n) ≡ true) × (p n ≡ true) → (k < n → list_all p (numbers_below n) ≡ true → p k ≡ true) → p k ≡ true
  by both below = dite (ℕ_discrete k n) (λ (same : k ≡ n). ap p same ∙ both.1) (λ (ne : k ≢ n). below (omega (arith, lt, ne)) both.0)

pub none_is : {A : Type 0} (o : Option A) → is_none o ≡ true → o ≡ None
none_is None e = refl
none_is (Some x) e = cc

begins_there : (xs : List Place) (k : ℕ) → get_or (set xs k Begins) k Begins ≡ Begins
begins_there [] k = refl
begins_there (x ∷ xs) zero = refl
begins_there (x ∷ xs) (suc k) = begins_there xs k

-- ---- turns that change the core alone

-- the same, and this of the core
abbrev pub cored : Seen → Option Taken → Seen
cored s o = record s { core = o }

-- with the core taken by this caller, and after its visit
abbrev pub taken_by : Seen → ℕ → Seen
taken_by s k = cored s (Some (record { who = k; is_done = false }))

abbrev pub done_by : Seen → ℕ → Seen
done_by s k = cored s (Some (record { who = k; is_done = true }))

abbrev pub placed : Seen → List Place → List ℕ → List (List ℕ) → List (Option Waiting) → Option Taken → Seen
placed s places made answers waits o = record s { places = places; made = made; answers = answers; waits = waits; core = o }

module _ (c : Crew) (s : Seen) (k : ℕ) where
  pub stays : (change : CoreChange) → after c s k (core_turn change (slice_index_or s.places k Begins)) ≡ cored s (core_after change k s.core)
  stays change =
      let o = core_after change k s.core in
      let made = set s.made k (slice_index s.made k) in
      let answers = set s.answers k (slice_index_or s.answers k []) in
      let waits = set s.waits k (slice_index_or s.waits k None) in
      ap (λ (x : List Place). placed s x made answers waits o) (set-get_or s.places k Begins)
      ∙ (ap (λ (x : List ℕ). placed s s.places x answers waits o) (set-get_or s.made k 0)
      ∙ (ap (λ (x : List (List ℕ)). placed s s.places s.made x waits o) (set-get_or s.answers k [])
      ∙ ap (λ (x : List (Option Waiting)). placed s s.places s.made s.answers x o) (set-get_or s.waits k None)))

  pub gives : slice_index_or s.places k Begins ≡ Begins → after c s k (core_turn Gives Begins) ≡ cored s None
  gives e = ap (λ (p : Place). after c s k (core_turn Gives p)) (sym e) ∙ stays Gives

  -- after a turn that answers, its caller begins
  pub begins_after : (turn : Turn) → IsAnswered turn → slice_index_or (after c s k turn).places k Begins ≡ Begins
  begins_after turn is = ap (λ (next : Then). get_or (set s.places k (place_after next)) k Begins) is.1 ∙ begins_there s.places k

-- ---- a caller's turn, where all make the right steps

module _ (c : Crew) (right : c.what_if ≡ None) where
  plain : (o : Option Turn) → option_map (made_so c.what_if) o ≡ o
  plain None = refl
  plain (Some turn) = ap (λ (what : Option WhatIf). Some (made_so what turn)) right

  way_at : Seen → ℕ → CoreUse
  way_at s k = use_of c k (slice_index s.made k)

  right_turn : (s : Seen) (k : ℕ) → next_turn c s k ≡ turn_of c s.state k (use_of c k (slice_index s.made k)) s.core (slice_index_or s.places k Begins) (next_ahead c s k)
  right_turn s k = plain (turn_of c s.state k (use_of c k (slice_index s.made k)) s.core (slice_index_or s.places k Begins) (next_ahead c s k))

  -- one that hasn't the core, where this is so of it
  pub begun_goes : (s : Seen) (k : ℕ) (way : CoreUse) (o : Option Taken) (ahead : Option Ahead) → use_of c k (slice_index s.made k) ≡ way → s.core ≡ o → has_core o k ≡ false → next_ahead c s k ≡ ahead
      → go c s k ≡ option_map (after c s k) (begun_turn c s.state k way (is_some o) (slice_index_or s.places k Begins) ahead)
  begun_goes s k way o ahead is at has a =
      let place = slice_index_or s.places k Begins in
      let core = has in
      ap (λ (t : Option Turn). option_map (after c s k) t)
      (right_turn s k
      ∙ (ap (λ (x : CoreUse). turn_of c s.state k x s.core place (next_ahead c s k)) is
      ∙ (ap (λ (x : Option Taken). turn_of c s.state k way x place (next_ahead c s k)) at
      ∙ (ap (λ (x : Option Ahead). turn_of c s.state k way o place x) a
      ∙ ap (λ (b : Bool). if b then held_turn c s.state k (option_map_or (λ (taken : Taken). taken.is_done) o false) ahead else begun_turn c s.state k way (is_some o) place ahead) has))))

  -- and one that has it
  pub held_goes : (s : Seen) (k : ℕ) (taken : Taken) (ahead : Option Ahead) → s.core ≡ Some taken → (taken.who == k) ≡ true → next_ahead c s k ≡ ahead
      → go c s k ≡ option_map (after c s k) (held_turn c s.state k taken.is_done ahead)
  held_goes s k taken ahead at has a =
      let place = slice_index_or s.places k Begins in
      let way = use_of c k (slice_index s.made k) in
      ap (λ (t : Option Turn). option_map (after c s k) t)
      (right_turn s k
      ∙ (ap (λ (x : Option Taken). turn_of c s.state k way x place (next_ahead c s k)) at
      ∙ (ap (λ (x : Option Ahead). turn_of c s.state k way (Some taken) place x) a
      ∙ ap (λ (b : Bool). if b then held_turn c s.state k taken.is_done ahead else begun_turn c s.state k way true place ahead) has)))

  pub take_goes : (s : Seen) (k : ℕ) (way : CoreUse) (visit : Asked) → use_of c k (slice_index s.made k) ≡ way → way ≢ Whole → s.core ≡ None → next_ahead c s k ≡ Some (Visits visit) → is_early s.state k visit ≡ false
      → go c s k ≡ Some (taken_by s k)
  take_goes s k way visit is ne at a early =
      let place = slice_index_or s.places k Begins in
      begun_goes s k way None (Some (Visits visit)) is at refl a
      ∙ (ap (λ (t : Option Turn). option_map (after c s k) t) (taking way ne)
      ∙ ap (λ (u : Seen). Some u) (stays c s k Takes)) where
        taking : (w : CoreUse) → w ≢ Whole → visit_begun c s.state k w false (slice_index_or s.places k Begins) visit ≡ Some (core_turn Takes (slice_index_or s.places k Begins))
        taking Whole h = absurd (h refl)
        taking Lasts h = ap (λ (b : Bool). if b then None else take_turn Lasts false (slice_index_or s.places k Begins)) early
        taking Tries h = ap (λ (b : Bool). if b then None else take_turn Tries false (slice_index_or s.places k Begins)) early

  -- after the take, its visit and the give
  pub visit_leads : (s : Seen) (k : ℕ) (visit : Asked) (turn : Turn) → next_ahead c s k ≡ Some (Visits visit) → visit_turn c s.state k visit ≡ Some turn
      → (order : List ℕ) × (led_along (machine c) (taken_by s k) order ≡ Some (cored (after c s k turn) None))
  visit_leads s k visit turn a e = by (ended_by visit) refl (gives_or_ends visit) where
    gives_or_ends : (v : Asked) → (ended_by v ≡ Gives) ⊎ (ended_by v ≡ Ends)
    gives_or_ends (asked.Step place) = inl refl
    gives_or_ends asked.Finish = inl refl
    gives_or_ends (asked.Hand mutex) = inr refl
    gives_or_ends (asked.Begin mutex until word) = inr refl
    gives_or_ends (asked.End mutex word) = inr refl

    visited : go c (taken_by s k) k ≡ Some (after c (taken_by s k) k (with_core (ended_by visit) turn))
    visited = held_goes (taken_by s k) k (record { who = k; is_done = false }) (Some (Visits visit)) refl (eq-eqb k k refl) a
        ∙ ap (λ (o : Option Turn). option_map (after c (taken_by s k) k) (option_map (with_core (ended_by visit)) o)) e

    given : slice_index_or (done_by (after c s k turn) k).places k Begins ≡ Begins → go c (done_by (after c s k turn) k) k ≡ Some (cored (after c s k turn) None)
    given begins = held_goes (done_by (after c s k turn) k) k (record { who = k; is_done = true }) (next_ahead c (done_by (after c s k turn) k) k) refl (eq-eqb k k refl) refl
        ∙ ap (λ (u : Seen). Some u) (gives c (done_by (after c s k turn) k) k begins)

    by : (change : CoreChange) → ended_by visit ≡ change → (ended_by visit ≡ Gives) ⊎ (ended_by visit ≡ Ends) → (order : List ℕ) × (led_along (machine c) (taken_by s k) order ≡ Some (cored (after c s k turn) None))
    by change is which = elim which as (λ v. (order : List ℕ) × (led_along (machine c) (taken_by s k) order ≡ Some (cored (after c s k turn) None))) [
      | inl h ↦ (k ∷ [], led_by (machine c) k [] (taken_by s k) _ _ (visited ∙ ap (λ (x : CoreChange). Some (after c (taken_by s k) k (with_core x turn))) h) refl)
      | inr h ↦ (
        k ∷ k ∷ [],
        led_by (machine c) k (k ∷ []) (taken_by s k) (done_by (after c s k turn) k) _ (visited ∙ ap (λ (x : CoreChange). Some (after c (taken_by s k) k (with_core x turn))) h)
            (led_by (machine c) k [] (done_by (after c s k turn) k) _ _ (given (begins_after c s k turn (visit_ends c k s.state visit turn e).1)) refl),
      )
    ]

  -- a turn that keeps the core as it is ends where nobody has it
  pub free_after : (s : Seen) (k : ℕ) (turn : Turn) → s.core ≡ None → turn.core ≡ Same → (after c s k turn).core ≡ None
  free_after s k turn at same = ap (λ (x : CoreChange). core_after x k s.core) same ∙ at

module _ (c w : Crew) (board : w.board ≡ c.board) (same : map calls_of w.callers.items ≡ map calls_of c.callers.items) (uses : (k made : ℕ) → use_of w k made ≡ Whole) (right : c.what_if ≡ None) where
  -- a whole visit, and a turn without one
  pub whole_goes : (s : Seen) (k : ℕ) → s.core ≡ None → go (alike c w) s k ≡ option_map (after c s k) (begun_turn c s.state k Whole false (slice_index_or s.places k Begins) (next_ahead c s k))
  whole_goes s k at =
      let place = slice_index_or s.places k Begins in
      let last = begun_turn c s.state k Whole false place (next_ahead c s k) in
      ap (λ (t : Option Turn). option_map (after (alike c w) s k) t)
      (by_right (turn_of (alike c w) s.state k (use_of (alike c w) k (slice_index s.made k)) s.core place (next_ahead (alike c w) s k))
      ∙ (ap (λ (x : CoreUse). turn_of (alike c w) s.state k x s.core place (next_ahead (alike c w) s k)) (uses k (slice_index s.made k))
      ∙ (ap (λ (x : Option Taken). turn_of (alike c w) s.state k Whole x place (next_ahead (alike c w) s k)) at
      ∙ (ap (λ (x : Option Ahead). begun_turn (alike c w) s.state k Whole false place x) (ahead_is c w board same s k)
      ∙ begun_is c w board same s.state k place (next_ahead c s k)))))
      ∙ turns_alike last where
        by_right : (o : Option Turn) → option_map (made_so (alike c w).what_if) o ≡ o
        by_right None = refl
        by_right (Some turn) = ap (λ (what : Option WhatIf). Some (made_so what turn)) right

        turns_alike : (o : Option Turn) → option_map (after (alike c w) s k) o ≡ option_map (after c s k) o
        turns_alike None = refl
        turns_alike (Some turn) = ap (λ (u : Seen). Some u) (after_is c w board same s k turn)

  -- ---- each whole visit is one in turns of its own

  abbrev Leads : Seen → Seen → Type 0
  Leads s t = (t.core ≡ None) × (order : List ℕ) × (led_along (machine c) s order ≡ Some t)

  whole_step : (s t : Seen) (k : ℕ) → s.core ≡ None → go (alike c w) s k ≡ Some t → Leads s t
  whole_step s t k at e = by (next_ahead c s k) refl (sym (whole_goes s k at) ∙ e) where
    visiting : (visit : Asked) → next_ahead c s k ≡ Some (Visits visit) → (turn : Turn) → visit_turn c s.state k visit ≡ Some turn → after c s k turn ≡ t → Leads s t
    visiting visit a turn v is = by_way (use_of c k (slice_index s.made k)) refl where
      free : (after c s k turn).core ≡ None
      free = free_after c right s k turn at (visit_ends c k s.state visit turn v).0

      early : (b : Bool) → is_early s.state k visit ≡ b → is_early s.state k visit ≡ false
      early false h = h
      early true h = let none = early_none c k s.state visit h in absurd (cc)

      taking : (way : CoreUse) → use_of c k (slice_index s.made k) ≡ way → way ≢ Whole → Leads s t
      taking way w ne =
          let took = take_goes c right s k way visit w ne at a (early (is_early s.state k visit) refl) in
          let rest = visit_leads c right s k visit turn a v in
          let end : cored (after c s k turn) None ≡ t = ap (λ (o : Option Taken). cored (after c s k turn) o) (sym free) ∙ is in (
            ap (λ (u : Seen). u.core) (sym is) ∙ free,
            k ∷ rest.0,
            led_by (machine c) k rest.0 s _ t took (rest.1 ∙ ap (λ (u : Seen). Some u) end),
          )

      by_way : (way : CoreUse) → use_of c k (slice_index s.made k) ≡ way → Leads s t
      by_way Whole w = (
        ap (λ (u : Seen). u.core) (sym is) ∙ free,
        k ∷ [],
        led_by (machine c) k [] s t t
            (begun_goes c right s k Whole None (Some (Visits visit)) w at refl a ∙ (ap (λ (o : Option Turn). option_map (after c s k) o) v ∙ ap (λ (u : Seen). Some u) is)) refl,
      )
      by_way Lasts w = taking Lasts w (λ h. cc)
      by_way Tries w = taking Tries w (λ h. cc)

    by : (o : Option Ahead) → next_ahead c s k ≡ o → option_map (after c s k) (begun_turn c s.state k Whole false (slice_index_or s.places k Begins) o) ≡ Some t → Leads s t
    by None a h = cc
    by (Some (Turns turn)) a h =
        let is = same_Some (after c s k turn) t h in
        let local = ahead_local c s.gates s.mutexes k (slice_index_or s.waits k None) (slice_index_or s.places k Begins) (next_call c k (slice_index s.made k)) (Turns turn) a in (
          ap (λ (u : Seen). u.core) (sym is) ∙ free_after c right s k turn at local.0,
          k ∷ [],
          led_by (machine c) k [] s t t (begun_goes c right s k (use_of c k (slice_index s.made k)) None (Some (Turns turn)) refl at refl a ∙ h) refl,
        )
    by (Some (Visits visit)) a h = some (visit_turn c s.state k visit) refl h where
      some : (o : Option Turn) → visit_turn c s.state k visit ≡ o → option_map (after c s k) o ≡ Some t → Leads s t
      some None v q = cc
      some (Some turn) v q = visiting visit a turn v (same_Some (after c s k turn) t q)

  pub whole_led : (order : List ℕ) (s t : Seen) → s.core ≡ None → led_along (machine (alike c w)) s order ≡ Some t → Leads s t
  whole_led [] s t at e = (ap (λ (u : Seen). u.core) (sym (same_Some s t e)) ∙ at, [], e)
  whole_led (k ∷ order) s t at e =
      option_and_then_some (λ u. led_along (machine (alike c w)) u order) (go (alike c w) s k) t e
      (λ u goes leads.
      let one = whole_step s u k at goes in
      let rest = whole_led order u t one.0 leads in
      (rest.0, one.1 ++ rest.1, led_on (machine c) one.1 rest.1 s u t one.2 rest.2))
