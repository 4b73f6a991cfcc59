-- The first of a queue that goes after its last.
use Rattle.std.proofs.Common.{◌≡◌, ◌≢◌, ℕ, ◌+◌, ◌<◌, ◌==◌, Bool, true, false, ◌&&◌, ◌||◌, List, [], ◌∷◌, length, Option, Some, None, is_some, slice_set, refl, sym, ap, ◌∙◌, subst, arith}
use Rattle.std.specs.Option.{option_map_or}
use Rattle.std.proofs.lemmas.Bool.{false≢true, eqb-true}
use Rattle.std.proofs.lemmas.List.{get_or-set_same, get_or-set_other, length-set, set-set}
use Rattle.evl_base.proofs.Plain.{eqb-same}
use Rattle.evl_bitmap.specs.NumberSet.{NumberSet, contains}
use Rattle.evl_sched.specs.declared.place.Place.{Place}
use Rattle.evl_sched.specs.Places.{goes_before, place_of}
use Rattle.evl_sched.specs.Queues.{IsChain, IsQueued, cell_of, is_before, next_in, queue_of, reached_place, stands_in}
use Rattle.evl_sched.proofs.QueueLaws.{is_in}
use Rattle.evl_sched.proofs.QueuedLaws.{has_place, put-call, put-within, take-call}
use Rattle.evl_sched.proofs.BeforeLaws.{first-reached, marked-first}
use Rattle.evl_sched.proofs.LastLaws.{last-reached}

module _ (places : List (Option Place)) (links : List (Option ℕ)) (marks : NumberSet) (h : IsQueued places links marks) (queue : ℕ) (low : queue < 612)
    (n last : ℕ) (room : n < length places) (first : next_in links queue ≡ Some n) (apart : last ≢ n) (stands : stands_in places queue last ≡ true) where
  alone_in : (t : ℕ) → n ≡ t → (b : Bool) → (t == last) ≡ b → (b || false) ≡ true → ⊥
  alone_in t one true is e = apart (sym (eqb-true t last is) ∙ sym one)
  alone_in t one false is e = false≢true e

  -- it is in the queue, and somebody is after it
  begins_with : (ts : List ℕ) → IsChain links queue ts → is_in ts last ≡ true → (is_in ts n ≡ true) × (is_some (next_in links (cell_of n)) ≡ true)
  begins_with [] e there = absurd (false≢true there)
  begins_with (t ∷ []) e there =
      let same : Some n ≡ Some t = sym first ∙ e.0 in
      let one : n ≡ t = cc in
      absurd (alone_in t one (t == last) refl there)
  begins_with (t ∷ u ∷ us) e there =
      let same : Some n ≡ Some t = sym first ∙ e.0 in
      let one : n ≡ t = cc in (
        subst (λ m. (m == n || is_in (u ∷ us) n) ≡ true) one (ap (λ b. b || is_in (u ∷ us) n) (eqb-same n)),
        ap (λ (o : Option ℕ). is_some o) (ap (λ m. next_in links (cell_of m)) one ∙ e.1.0),
      )

  there : (is_in (h.line queue) n ≡ true) × (is_some (next_in links (cell_of n)) ≡ true)
  there = begins_with (h.line queue) (h.chain queue low) (h.member queue last ∙ stands)

  own : (p : Place) × (place_of places n ≡ Some p) × (queue_of p.rank ≡ queue)
  own = has_place places links marks h queue n there.0

  abbrev out : List (Option ℕ)
  out = slice_set links queue (next_in links (cell_of n))

  within : queue < length links
  within = omega (arith, h.long, low)

  begins : next_in out queue ≡ next_in links (cell_of n)
  begins = get_or-set_same links queue (next_in links (cell_of n)) None within

  gone : IsQueued (slice_set places n None) out marks
  gone =
      take-call places links marks h n own.0 own.1 queue (sym own.2) queue (first-reached links (length places) queue n first) out refl (next_in out queue) refl marks
      (sym (ap (λ (o : Option ℕ). is_some o && contains marks queue) begins ∙ ap (λ b. b && contains marks queue) there.1)) (λ other ne. refl)

  its-place : place_of (slice_set places n None) last ≡ place_of places last
  its-place = get_or-set_other places n last None None apart

  abbrev left : List (Option Place)
  left = slice_set places n None

  free : place_of left n ≡ None
  free = get_or-set_same places n None None room

  still_none : next_in links (cell_of last) ≡ None → next_in out (cell_of last) ≡ None
  still_none none = get_or-set_other links queue (cell_of last) (next_in links (cell_of n)) None (λ e. absurd (omega (arith, e, low))) ∙ none

  reached : (place : Place) → next_in links (cell_of last) ≡ None → is_before places place last ≡ false → cell_of last ≡ reached_place (is_before left place) out (length left) queue
  reached place none after =
      last-reached left out marks gone place queue low last
      (ap (λ (o : Option Place). option_map_or (λ p. queue_of p.rank == queue) o false) its-place ∙ stands) (still_none none)
      (ap (λ (o : Option Place). option_map_or (λ other. goes_before place other) o false) its-place ∙ after)

  pub last-within : (place : Place) → next_in links (cell_of last) ≡ None → is_before places place last ≡ false → cell_of last < length out
  last-within place none after = put-within left out marks gone queue low (is_before left place) (cell_of last) (reached place none after)

  -- after its last
  pub turned : (place : Place) → queue ≡ queue_of place.rank → next_in links (cell_of last) ≡ None → is_before places place last ≡ false
      → (cells : List (Option ℕ)) → cells ≡ slice_set (slice_set out (cell_of n) (next_in out (cell_of last))) (cell_of last) (Some n)
      → IsQueued (slice_set places n (Some place)) cells marks
  turned place at none after cells linked =
      let many : length left ≡ length places = length-set places n None in
      let marked : contains marks queue ≡ true = marked-first places links marks h queue low (next_in links queue) refl (ap (λ (o : Option ℕ). is_some o) first) in
      subst (λ (ps : List (Option Place)). IsQueued ps cells marks) (set-set places n None (Some place))
      (put-call left out marks gone n place (omega (arith, many, room)) free queue at (cell_of last) (reached place none after) cells linked marks marked (λ other ne. refl))
