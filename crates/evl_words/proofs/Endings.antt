-- The hands of a word's table as its seats are dealt out, and as they are put together where it is closed.
use Rattle.std.proofs.Common.{◌≡◌, ℕ, zero, suc, ◌+◌, ◌-◌, ◌≤◌, ◌<◌, List, [], ◌∷◌, ◌++◌, map, refl, ap, ◌∙◌, arith}
use Rattle.std.specs.Prelude.{replicate}
use Rattle.std.specs.List.{range_with_len}
use Rattle.std.proofs.lemmas.List.FromFn.{fill_by_all, get_or-map-range_with_len, length-map-range_with_len}
use mathlib.Core.Option.{Option}
use Rattle.evl_words.specs.declared.history.Place.{Place}
use Rattle.evl_words.specs.Hands.{Dealt, place, first_of, rest_of, hand_from, hand_back}
use Rattle.evl_words.specs.Endings.{JoinsBy, SplitsBy, joined, left_after}
use Rattle.evl_words.proofs.Dealing.{splits, joins, hand_step}

-- hands are put together one after the other
pub joins_hands : {V : Type 0} (rule : List ℕ → List (Option (Unit {0})) → List V → Type 0) → JoinsBy (λ v w. v ++ w) [] (Dealt rule)
joins_hands rule = joins rule

pub joined_back : {Q V : Type 0} (place_of : Q → Place V) (last : Q) (seats : List Q) → joined (λ v w. v ++ w) (λ q. place_of q ∷ []) (place_of last ∷ []) seats ≡ hand_back place_of (seats ++ last ∷ [])
joined_back place_of last [] = refl
joined_back place_of last (q ∷ qs) = ap (λ hand. hand ++ place_of q ∷ []) (joined_back place_of last qs)

-- a hand is cut after its first seat
pub splits_hands : {V : Type 0} (rule : List ℕ → List (Option (Unit {0})) → List V → Type 0) → SplitsBy first_of rest_of (Dealt rule)
splits_hands rule = splits rule

module _ {V : Type 0} (v : V) (m : ℕ) where
  left_from : (k : ℕ) → k ≤ m → left_after rest_of (hand_from 0 (replicate m v)) k ≡ hand_from k (replicate (m - k) v)
  left_from zero le = let e : m ≡ m - 0 = omega arith in ap (λ n. hand_from 0 (replicate n v)) e
  left_from (suc k) le =
      let lt : k < m = omega arith in
      let s : k + 1 ≡ suc k = omega arith in
      ap rest_of (left_from k (omega arith)) ∙ (ap rest_of (hand_step k m v lt) ∙ ap (λ j. hand_from j (replicate (m - j) v)) s)

  -- the seat that is cut off after so many others
  pub first_left : (k : ℕ) → k < m → first_of (left_after rest_of (hand_from 0 (replicate m v)) k) ≡ place k v ∷ []
  first_left k lt = ap first_of (left_from k (omega arith)) ∙ ap first_of (hand_step k m v lt)

pub map_same : {X : Type 0} (f g : ℕ → X) (n : ℕ) → ((k : ℕ) → k < n → f k ≡ g k) → map f (range_with_len 0 n) ≡ map g (range_with_len 0 n)
map_same f g n same = fill_by_all g (map f (range_with_len 0 n)) n (f 0) (length-map-range_with_len f 0 n) (λ k lt. get_or-map-range_with_len f 0 n k k (f 0) (omega arith) (omega arith) ∙ same k lt)
