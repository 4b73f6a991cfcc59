-- Seats dealt out among the tokens of a table. A table's token has a hand of seats, mostly one; a table's rule is over the seats' views, wherever the seats are.
use Rattle.std.specs.Prelude.{◌≡◌, ℕ, suc, ◌<◌, ◌≤◌, ◌==◌, List, [], ◌∷◌, ◌++◌, length, slice_index, slice_set, sum_by, count_by}
use mathlib.Core.Option.{Option, some}
use lib.ListN.{get_elem?}
use Rattle.atomic_table.specs.Table.{State, Me, Step, Act, Valid, homes_after, carried_after}
use Rattle.evl_words.specs.declared.history.Place.{Place}

abbrev pub Hand : Type 0 → Type 0
Hand V = List (Place V)

module _ {V : Type 0} where
  abbrev pub place : ℕ → V → Place V
  place k v = record { number = k; view = v }

  -- how many places of the seat k a hand has
  abbrev pub places_of : ℕ → Hand V → ℕ
  places_of k hand = count_by (λ p. p.number == k) hand

  -- the views are those of these seats
  abbrev pub AreOf : List V → Hand V → Type 0
  AreOf views [] = Unit {0}
  AreOf views (p ∷ ps) = (get_elem? views p.number ≡ some p.view) × AreOf views ps

  -- rule: A seat joined to another no longer counts; the other has what both hold and made.
  --   rows: words_are_shared_and_seats_move
  -- no seat is in two hands, and each hand has the views of its seats
  pub record Deals (views : List V) (hands : List (Hand V)) : Type 0 where
    pub once : (k : ℕ) → sum_by (places_of k) hands ≤ 1
    pub same : (id : ℕ) (hand : Hand V) → get_elem? hands id ≡ some hand → AreOf views hand

  -- the hand of all seats from number k on
  abbrev pub hand_from : ℕ → List V → Hand V
  hand_from k [] = []
  hand_from k (v ∷ vs) = place k v ∷ hand_from (suc k) vs

  -- the view of a hand's first seat
  abbrev pub first_view : V → Hand V → V
  first_view v [] = v
  first_view v (p ∷ ps) = p.view

  -- a hand is cut after its first seat
  abbrev pub first_of : Hand V → Hand V
  first_of [] = []
  first_of (p ∷ ps) = p ∷ []

  abbrev pub rest_of : Hand V → Hand V
  rest_of [] = []
  rest_of (p ∷ ps) = ps

  -- the hand that has the place of each of these, the last one first
  abbrev pub hand_back : {Q : Type 0} → (Q → Place V) → List Q → Hand V
  hand_back place_of [] = []
  hand_back place_of (q ∷ qs) = hand_back place_of qs ++ place_of q ∷ []

  module _ {S : Type 0} where
    -- what a step says, at a token that has one seat: of the step, the seat's number, its view and slots before, the number found, and its view and slots after
    abbrev pub Told : (Step S → ℕ → Me S V → ℕ → Me S V → Type 0) → Step S → Me S (Hand V) → ℕ → Me S (Hand V) → Type 0
    Told then st m found n = (k : ℕ) (v : V) → m.0 ≡ place k v ∷ [] → (w : V) × (n.0 ≡ place k w ∷ []) × then st k (v, m.1) found (w, n.1)

    module _ (rule : List ℕ → List (Option S) → List V → Type 0) where
      -- the rule of a table: a fact about its words, its slots that are at home and the views of all seats
      pub record Dealt (s : State S (Hand V)) : Type 0 where
        pub views : List V
        pub deals : Deals views s.views
        pub kept : rule s.words s.homes views

      -- Whatever the table is when the word i becomes f of what it was, the seat k has a new view and an act that keep the rule, and `then` holds of the number found and of the seat after
      abbrev pub Turns : ℕ → ℕ → Me S V → ℕ → (ℕ → ℕ) → (ℕ → Me S V → Type 0) → Type 0
      Turns slots k me i f then = (words : List ℕ) (homes : List (Option S)) (views : List V) → rule words homes views → length homes ≡ slots → get_elem? views k ≡ some me.0 → slice_index words i < 18446744073709551616
          → (w : V) × (a : Act S) × Valid homes me.1 a × rule (slice_set words i (f (slice_index words i))) (homes_after homes me.1 a) (slice_set views k w) × then (slice_index words i) (w, carried_after me.1 a)
