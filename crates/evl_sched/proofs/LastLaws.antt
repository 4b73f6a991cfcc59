-- A walk ends at the last of a queue where that doesn't stop it.
use Rattle.std.proofs.Common.{◌≡◌, ℕ, suc, zero, ◌<◌, ◌≤◌, ◌==◌, nat_lt, Bool, true, false, ◌||◌, List, [], ◌∷◌, length, Option, Some, None, is_some, if◌then◌else◌, refl, sym, ap, ◌∙◌, arith}
use Rattle.std.specs.List.{AllByRecursion}
use Rattle.std.specs.Option.{option_map_or}
use Rattle.std.proofs.lemmas.Bool.{false≢true, eqb-true}
use Rattle.std.proofs.lemmas.Bool.Decides.{nat_tests}
use Rattle.evl_bitmap.specs.NumberSet.{NumberSet}
use Rattle.evl_sched.specs.declared.place.Place.{Place}
use Rattle.evl_sched.specs.Places.{IsNotAfter, goes_before, place_of}
use Rattle.evl_sched.specs.Queues.{AreInOrder, IsChain, IsQueued, StandsFirst, cell_of, is_before, next_in, reached_place, stands_in}
use Rattle.evl_sched.proofs.QueueLaws.{all_at, all_from, ends, goes_on, is_in}
use Rattle.evl_sched.proofs.QueueChanges.{not_after_both, not_before}
use Rattle.evl_sched.proofs.QueuedLaws.{has_place, lines-few}

not_first : (a b : Place) → IsNotAfter a b → goes_before b a ≡ false
not_first a b h = by (b.rank == a.rank) refl
  where
    by : (c : Bool) → (b.rank == a.rank) ≡ c → (if c then nat_lt b.stamp a.stamp else nat_lt a.rank b.rank) ≡ false
    by true same = let l : a.stamp ≤ b.stamp = h.stamp (eqb-true b.rank a.rank same) in grind (arith, nat_tests)
    by false ne = let l : b.rank ≤ a.rank = h.rank in grind (arith, nat_tests)

module _ (places : List (Option Place)) (place : Place) (links : List (Option ℕ)) (last : ℕ) (own : Place) (its : place_of places last ≡ Some own) (after : is_before places place last ≡ false)
    (none : next_in links (cell_of last) ≡ None) where
  comes_behind : IsNotAfter own place
  comes_behind = not_before place own (sym (ap (λ (o : Option Place). option_map_or (λ other. goes_before place other) o false) its) ∙ after)

  -- nobody before the last stops the walk either
  passes : (u : ℕ) (p : Place) → place_of places u ≡ Some p → IsNotAfter p own → is_before places place u ≡ false
  passes u p e h = ap (λ (o : Option Place). option_map_or (λ other. goes_before place other) o false) e ∙ not_first p place (not_after_both p own place h comes_behind)

  pub walk-to-last : (steps c : ℕ) (ts : List ℕ) → IsChain links c ts → length ts ≤ steps → AreInOrder places ts → AllByRecursion (λ u. (p : Place) × (place_of places u ≡ Some p)) ts
      → is_in ts last ≡ true → reached_place (is_before places place) links steps c ≡ cell_of last
  walk-to-last steps c [] e few order those there = absurd (false≢true there)
  walk-to-last zero c (u ∷ us) e few order those there = absurd (omega (arith, few))
  walk-to-last (suc steps) c (u ∷ us) e few order those there =
      let shorter : length us ≤ steps = omega (arith, few) in
      by (λ there. walk-to-last steps (cell_of u) us e.1 shorter order.1 those.1 there) (u == last) refl there
    where
      by : (is_in us last ≡ true → reached_place (is_before places place) links steps (cell_of u) ≡ cell_of last) → (b : Bool) → (u == last) ≡ b → (b || is_in us last) ≡ true
          → reached_place (is_before places place) links (suc steps) c ≡ cell_of last
      by more true at there =
          let here : u ≡ last = eqb-true u last at in
          goes_on (is_before places place) links steps c u e.0 (ap (is_before places place) here ∙ after)
          ∙ (ap (λ m. reached_place (is_before places place) links steps (cell_of m)) here ∙ ends (is_before places place) links steps (cell_of last) none)
      by more false ne there =
          let p = those.0 in
          goes_on (is_before places place) links steps c u e.0 (passes u p.0 p.1 (all_at (StandsFirst places u) us order.0 last there p.0 own p.1 its)) ∙ more there

pub last-reached : (places : List (Option Place)) (links : List (Option ℕ)) (marks : NumberSet) → IsQueued places links marks → (place : Place) (queue : ℕ) → queue < 612 → (last : ℕ)
    → stands_in places queue last ≡ true → next_in links (cell_of last) ≡ None → is_before places place last ≡ false → cell_of last ≡ reached_place (is_before places place) links (length places) queue
last-reached places links marks h place queue low last stands none after =
    let there : is_in (h.line queue) last ≡ true = h.member queue last ∙ stands in
    let p = has_place places links marks h queue last there in
    sym (walk-to-last places place links last p.0 p.1 after none (length places) queue (h.line queue) (h.chain queue low) (lines-few places links marks h queue) (h.order queue)
    (all_from (λ u. (p : Place) × (place_of places u ≡ Some p)) (h.line queue) (λ u e. let p = has_place places links marks h queue u e in (p.0, p.1))) there)

-- a walk along an empty queue ends at its beginning
pub empty-reached : (places : List (Option Place)) (place : Place) (links : List (Option ℕ)) (queue : ℕ) (first : Option ℕ) → first ≡ next_in links queue → is_some first ≡ false
    → queue ≡ reached_place (is_before places place) links (length places) queue
empty-reached places place links queue None at e = sym (ends (is_before places place) links (length places) queue (sym at))
empty-reached places place links queue (Some t) at e = absurd (false≢true (sym e))
