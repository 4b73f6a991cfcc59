-- Seats that are dealt out one after another, and element after element.
use Rattle.std.proofs.Common.{◌≡◌, ℕ, zero, suc, ◌+◌, ◌≤◌, List, [], ◌∷◌, ◌++◌, length, map, get_or, Some, slice_get, slice_set, drop, refl, sym, ap, ◌∙◌, subst, arith, length-append, length-set, zero-add, Vec}
use Rattle.std.proofs.lemmas.List.FromFn.{map-range_with_len_more, length-map-range_with_len}
use Rattle.std.specs.Prelude.{sum_by}
use Rattle.std.proofs.lemmas.List.Sums.{sum_by-cons}
use Rattle.std.specs.List.{range_with_len}
use Rattle.std.specs.Option.{option_map}
use Rattle.std.proofs.lemmas.List.{length-map, map-append, map-id, map-set}
use Rattle.std.proofs.lemmas.Option.{none-some, same_Some, slice_get-map, slice_get_read}
use Rattle.evl_core.specs.words.AtSeats.{AreCounted, dealt}

is-made : {B : Type 0} (f : ℕ → B) (ks : List ℕ) (i : ℕ) (y : B) → slice_get (map f ks) i ≡ Some y → (k : ℕ) × (f k ≡ y)
is-made f [] i y there = absurd (none-some y there)
is-made f (k ∷ ks) zero y there = (k, same_Some (f k) y there)
is-made f (k ∷ ks) (suc i) y there = is-made f ks i y there

module _ {S : Type 0} where
  pub dealt-none : (lists : List (List S)) → dealt lists [] ≡ lists
  dealt-none [] = refl
  dealt-none (list ∷ lists) = refl

  -- once no seat is left
  pub dealt-end : (lists : List (List S)) (seats : List S) (all : List (List S)) → length seats ≡ 0 → dealt lists seats ≡ all → lists ≡ all
  dealt-end lists [] all none is = sym (dealt-none lists) ∙ is
  dealt-end lists (seat ∷ seats) all none is = absurd (omega arith)

  -- the last seat goes to its list first
  pub dealt-last : (lists : List (List S)) (seats : List S) (seat : S) (list : List S) → slice_get lists (length seats) ≡ Some list
      → dealt (slice_set lists (length seats) (list ++ seat ∷ [])) seats ≡ dealt lists (seats ++ seat ∷ [])
  dealt-last [] seats seat list there = absurd (none-some list there)
  dealt-last (first ∷ lists) [] seat list there = λ i. (sym (same_Some first list there) i ++ seat ∷ []) ∷ sym (dealt-none lists) i
  dealt-last (first ∷ lists) (s ∷ seats) seat list there = ap (λ rest. (first ++ s ∷ []) ∷ rest) (dealt-last lists seats seat list there)

  -- the seats of one element more
  pub dealt-more : {G : Type 0} (made : G → ℕ → S) (elements : List G) (e : G) (threads : List ℕ)
      → dealt (map (λ k. map (λ g. made g k) elements) threads) (map (made e) threads) ≡ map (λ k. map (λ g. made g k) (elements ++ e ∷ [])) threads
  dealt-more made elements e [] = refl
  dealt-more made elements e (k ∷ threads) = λ i. sym (map-append (λ g. made g k) elements (e ∷ [])) i ∷ dealt-more made elements e threads i

  abbrev lists_of : {Z : Type 0} → List (Vec S Z) → List (List S)
  lists_of lists = map (λ v. v.items) lists

  -- one empty list more
  pub one-empty : {Z : Type 0} (lists more : List (Vec S Z)) (list : Vec S Z) (n : ℕ) → lists_of lists ≡ map (λ k. []) (range_with_len 0 n) → list.items ≡ [] → more ≡ lists ++ list ∷ [] → lists_of more ≡ map (λ k. []) (range_with_len 0 (n + 1))
  one-empty lists more list n before empty is =
      ap lists_of is ∙ map-append (λ v. v.items) lists (list ∷ []) ∙ (λ i. before i ++ empty i ∷ []) ∙ sym (map-range_with_len_more {X = List S} (λ k. []) 0 n n (zero-add n))

  -- one turn of the dealing
  pub deal-turn : {Z : Type 0} (lists : List (Vec S Z)) (seats all : List S) (seat : S) (place : ℕ) (was is : Vec S Z) (old : List (List S)) → place ≡ length seats → all ≡ seats ++ seat ∷ []
      → length all ≤ length lists → dealt (lists_of lists) all ≡ old → was ≡ get_or lists place was → is.items ≡ was.items ++ seat ∷ []
      → (length seats ≤ length (slice_set lists place is)) × (dealt (lists_of (slice_set lists place is)) seats ≡ old)
  deal-turn lists seats all seat place was is old at last room before here more =
      let long : length all ≡ length seats + 1 = ap length last ∙ length-append seats (seat ∷ []) in
      let there : slice_get lists place ≡ Some was = slice_get_read lists (length lists) place was refl (omega (arith, at, long, room)) here in
      let list : slice_get (lists_of lists) (length seats) ≡ Some was.items = ap (slice_get (lists_of lists)) (sym at) ∙ slice_get-map (λ v. v.items) lists place ∙ ap (option_map (λ v. v.items)) there in
      let set : lists_of (slice_set lists place is) ≡ slice_set (lists_of lists) (length seats) (was.items ++ seat ∷ []) = map-set (λ v. v.items) lists place is ∙ (λ i. slice_set (lists_of lists) (at i) (more i)) in
      (omega (arith, long, room, length-set lists place is), ap (λ ls. dealt ls seats) set ∙ dealt-last (lists_of lists) seats seat was.items list ∙ ap (dealt (lists_of lists)) (sym last) ∙ before)

  -- there is a list for each seat
  pub deals-one : {Z : Type 0} (lists : List (Vec S Z)) (seats : List S) (threads : ℕ) (before : ℕ → List S) (made : ℕ → S)
      → lists_of lists ≡ map before (range_with_len 0 threads) → seats ≡ map made (range_with_len 0 threads) → length lists ≡ length seats
  deals-one lists seats threads before made lists_are seats_are =
      sym (length-map lists (λ v. v.items)) ∙ ap length lists_are ∙ length-map-range_with_len before 0 threads ∙ sym (length-map-range_with_len made 0 threads) ∙ sym (ap length seats_are)

  -- the lists once the seats of one element more are dealt
  pub dealt-turn : {Z G : Type 0} (made : G → ℕ → S) (lists more : List (Vec S Z)) (seats : List S) (elements : List G) (e : G) (threads : ℕ)
      → lists_of lists ≡ map (λ k. map (λ g. made g k) elements) (range_with_len 0 threads) → seats ≡ map (made e) (range_with_len 0 threads) → lists_of more ≡ dealt (lists_of lists) seats
      → lists_of more ≡ map (λ k. map (λ g. made g k) (elements ++ e ∷ [])) (range_with_len 0 threads)
  dealt-turn made lists more seats elements e threads before new is = is ∙ (λ i. dealt (before i) (new i)) ∙ dealt-more made elements e (range_with_len 0 threads)

  -- what all dealt lists are alike
  pub each-dealt : {Z : Type 0} (P : List S → Type 0) (lists : List (Vec S Z)) (threads : ℕ) (made : ℕ → List S) → lists_of lists ≡ map made (range_with_len 0 threads) → ((k : ℕ) → P (made k))
      → (k : ℕ) (list : Vec S Z) → slice_get lists k ≡ Some list → P list.items
  each-dealt P lists threads made are each k list there =
      let at : slice_get (map made (range_with_len 0 threads)) k ≡ Some list.items = ap (λ ls. slice_get ls k) (sym are) ∙ slice_get-map (λ v. v.items) lists k ∙ ap (option_map (λ v. v.items)) there in
      let is = is-made made (range_with_len 0 threads) k list.items at in subst P is.1 (each is.0)

-- the numbers up to one more
pub range-more : (n : ℕ) → range_with_len 0 (n + 1) ≡ range_with_len 0 n ++ n ∷ []
range-more n = sym (map-id (range_with_len 0 (n + 1))) ∙ map-range_with_len_more (λ k. k) 0 n n (zero-add n) ∙ ap (λ ks. ks ++ n ∷ []) (map-id (range_with_len 0 n))

-- a thread's seats as elements in the order of their numbers were made with them
module _ {G S : Type 0} (made : G → ℕ → S) (id : G → ℕ) (number passes : S → ℕ) (of_its : (g : G) (k : ℕ) → number (made g k) ≡ id g) (none : (g : G) (k : ℕ) → passes (made g k) ≡ 0) (k : ℕ) where
  abbrev seats_at : List G → List S
  seats_at elements = map (λ g. made g k) elements

  placed-from : (a : ℕ) (elements : List G) → map id elements ≡ range_with_len a (length elements) → (j : ℕ) (s : S) → slice_get (seats_at elements) j ≡ Some s → number s ≡ a + j
  placed-from a [] are j s there = absurd (none-some s there)
  placed-from a (g ∷ elements) are zero s there = omega (arith, ap number (same_Some (made g k) s there), of_its g k, ap (λ ns. get_or ns 0 0) are)
  placed-from a (g ∷ elements) are (suc j) s there = omega (arith, placed-from (a + 1) elements (ap (drop 1) are) j s there)

  none-held : (elements : List G) → 0 ≡ sum_by passes (seats_at elements)
  none-held [] = refl
  none-held (g ∷ elements) = omega (arith, sum_by-cons passes (made g k) (seats_at elements), none g k, none-held elements)

  few-held : (elements : List G) (j : ℕ) (s : S) → slice_get (seats_at elements) j ≡ Some s → passes s ≤ 255
  few-held [] j s there = absurd (none-some s there)
  few-held (g ∷ elements) zero s there = omega (arith, ap passes (same_Some (made g k) s there), none g k)
  few-held (g ∷ elements) (suc j) s there = few-held elements j s there

  pub fresh-counted : (elements : List G) → length elements ≤ 32 → map id elements ≡ range_with_len 0 (length elements) → AreCounted number passes (seats_at elements) 0
  fresh-counted elements few are = record {
    few = omega (arith, few, length-map elements (λ g. made g k));
    placed = λ j s there. placed-from 0 elements are j s there ∙ zero-add j;
    bounded = few-held elements;
    counted = none-held elements;
  }
