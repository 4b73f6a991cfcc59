-- The sums over all seats, where one hand has them all.
use Rattle.std.proofs.Common.{◌≡◌, ℕ, zero, suc, ◌+◌, ◌≤◌, ◌<◌, ◌≢◌, eqb, eq-eqb, ne_eqb, List, [], ◌∷◌, length, refl, sym, ap, ◌∙◌, length-append, arith}
use Rattle.std.specs.Prelude.{sum_by, All}
use Rattle.std.proofs.lemmas.List.Sums.{sum_by-cons, sum_by_push}
use Rattle.std.proofs.lemmas.List.Elements.{All-nil, All-cons}
use mathlib.Core.Option.{some, some-injective, some-ne-none}
use lib.ListN.{get_elem?}
use Rattle.evl_words.specs.declared.history.Place.{Place}
use Rattle.evl_words.specs.Hands.{Hand, places_of, AreOf, Deals, hand_back}
use Rattle.evl_words.proofs.Sequences.{total_at}
use Rattle.evl_words.proofs.Dealing.{are_of-apart, places_of-cons, one_if, zero_if}

abbrev times : ℕ → ℕ → ℕ
times zero n = 0
times (suc k) n = n + times k n

module _ {V : Type 0} (f : V → ℕ) where
  -- the views from a number on, each as often as the hand has its seat
  abbrev weighed : ℕ → List V → Hand V → ℕ
  weighed a [] hand = 0
  weighed a (v ∷ vs) hand = times (places_of a hand) (f v) + weighed (suc a) vs hand

  weighed-none : (a : ℕ) (vs : List V) → weighed a vs [] ≡ 0
  weighed-none a [] = refl
  weighed-none a (v ∷ vs) = omega (arith, weighed-none (suc a) vs)

  places_here : (a : ℕ) (p : Place V) (ps : Hand V) → p.number ≡ a → places_of a (p ∷ ps) ≡ suc (places_of a ps)
  places_here a p ps here = let one = one_if (eqb p.number a) (eq-eqb p.number a here) in omega (arith, places_of-cons a p ps)

  places_else : (a : ℕ) (p : Place V) (ps : Hand V) → p.number ≢ a → places_of a (p ∷ ps) ≡ places_of a ps
  places_else a p ps else' = let none = zero_if (eqb p.number a) (ne_eqb p.number a else') in omega (arith, places_of-cons a p ps)

  -- a seat below these doesn't count
  weighed-below : (a : ℕ) (vs : List V) (p : Place V) (ps : Hand V) → p.number < a → weighed a vs (p ∷ ps) ≡ weighed a vs ps
  weighed-below a [] p ps lt = refl
  weighed-below a (v ∷ vs) p ps lt = λ i. times (places_else a p ps (λ e. absurd (omega arith)) i) (f v) + weighed-below (suc a) vs p ps (omega arith) i

  weighed-cons : (a i : ℕ) (vs : List V) (p : Place V) (ps : Hand V) → p.number ≡ a + i → get_elem? vs i ≡ some p.view → weighed a vs (p ∷ ps) ≡ f p.view + weighed a vs ps
  weighed-cons a i [] p ps number at = absurd (some-ne-none p.view (sym at))
  weighed-cons a zero (v ∷ vs) p ps number at =
      let here : times (places_of a (p ∷ ps)) (f v) ≡ times (suc (places_of a ps)) (f v) = ap (λ k. times k (f v)) (places_here a p ps (omega arith)) in
      let view : f v ≡ f p.view = ap f (some-injective v p.view at) in
      let rest = weighed-below (suc a) vs p ps (omega arith) in omega arith
  weighed-cons a (suc i) (v ∷ vs) p ps number at =
      let here : times (places_of a (p ∷ ps)) (f v) ≡ times (places_of a ps) (f v) = ap (λ k. times k (f v)) (places_else a p ps (λ e. absurd (omega arith))) in
      let rest = weighed-cons (suc a) i vs p ps (omega arith) at in omega arith

  -- so they come to what the hand comes to
  weighed-hand : (views : List V) (hand : Hand V) → AreOf views hand → weighed 0 views hand ≡ sum_by (λ (p : Place V). f p.view) hand
  weighed-hand views [] h = weighed-none 0 views
  weighed-hand views (p ∷ ps) h = omega (arith, weighed-cons 0 p.number views p ps (omega arith) h.0, weighed-hand views ps h.1, sum_by-cons (λ (q : Place V). f q.view) p ps)

  times-one : (k n : ℕ) → k ≡ 1 → times k n ≡ n
  times-one k n e = ap (λ j. times j n) e ∙ one
    where
      one : times 1 n ≡ n
      one = omega arith

times-ones : (k : ℕ) → times k 1 ≡ k
times-ones zero = refl
times-ones (suc k) = omega (arith, times-ones k)

module _ {V : Type 0} (f : V → ℕ) (hand : Hand V) (once : (k : ℕ) → places_of k hand ≤ 1) where
  bounded : (a : ℕ) (vs : List V) → weighed (λ (v : V). 1) a vs hand ≤ length vs
  bounded a [] = omega arith
  bounded a (v ∷ vs) = omega (arith, once a, times-ones (places_of a hand), bounded (suc a) vs)

  -- where the hand has so many seats, it has each
  each_once : (a : ℕ) (vs : List V) → length vs ≤ weighed (λ (v : V). 1) a vs hand → weighed f a vs hand ≡ sum_by f vs
  each_once a [] all = refl
  each_once a (v ∷ vs) all =
      let one : places_of a hand ≡ 1 = omega (arith, once a, times-ones (places_of a hand), bounded (suc a) vs) in
      let rest = each_once (suc a) vs (omega (arith, once a, times-ones (places_of a hand))) in
      omega (arith, times-one f (places_of a hand) (f v) one, sum_by-cons f v vs)

  pub hand_sum : (views : List V) → AreOf views hand → length views ≤ length hand → sum_by (λ (p : Place V). f p.view) hand ≡ sum_by f views
  hand_sum views are all =
      let ones : weighed (λ (v : V). 1) 0 views hand ≡ length hand = weighed-hand (λ (v : V). 1) views hand are ∙ counted hand in
      sym (weighed-hand f views hand are) ∙ each_once 0 views (omega arith)
    where
      counted : (ps : Hand V) → sum_by (λ (p : Place V). 1) ps ≡ length ps
      counted [] = refl
      counted (p ∷ ps) = omega (arith, sum_by-cons (λ (q : Place V). 1) p ps, counted ps)

-- no seat is twice in a hand that was dealt
pub once_in : {V : Type 0} (views : List V) (hands : List (Hand V)) → Deals views hands → (id : ℕ) (hand : Hand V) → get_elem? hands id ≡ some hand → (k : ℕ) → places_of k hand ≤ 1
once_in views hands d id hand at k = omega (arith, d.once k, total_at (places_of k) hands id hand at)

-- the hand of these seats
module _ {Q V : Type 0} (place_of : Q → Place V) where
  -- what is kept of all seats is kept of these
  pub each_back : (P : Q → Type 0) (views : List V) → ((q : Q) → get_elem? views (place_of q).number ≡ some (place_of q).view → P q) → (qs : List Q) → AreOf views (hand_back place_of qs) → All P qs
  each_back P views each [] are = All-nil P
  each_back P views each (q ∷ qs) are =
      let parts = are_of-apart views (hand_back place_of qs) (place_of q) are in
      All-cons P q qs (each q parts.1) (each_back P views each qs parts.0)

  pub length_back : (qs : List Q) → length (hand_back place_of qs) ≡ length qs
  length_back [] = refl
  length_back (q ∷ qs) = omega (arith, length-append (hand_back place_of qs) (place_of q ∷ []), length_back qs)

  pub sum_back : (f : V → ℕ) (qs : List Q) → sum_by (λ (p : Place V). f p.view) (hand_back place_of qs) ≡ sum_by (λ (q : Q). f (place_of q).view) qs
  sum_back f [] = refl
  sum_back f (q ∷ qs) = omega (arith, sum_by_push (λ (p : Place V). f p.view) (hand_back place_of qs) (place_of q), sum_by-cons (λ (r : Q). f (place_of r).view) q qs, sum_back f qs)
