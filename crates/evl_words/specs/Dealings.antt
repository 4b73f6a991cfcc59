-- A world whose seats are dealt out among callers: besides the steps of its seats, a hand is split and two hands are joined.
use Rattle.std.specs.Prelude.{◌≡◌, ◌≢◌, ℕ, List, [], ◌∷◌, ◌++◌, slice_set}
use mathlib.Core.Option.{some}
use lib.ListN.{get_elem?}
use Rattle.evl_words.specs.declared.history.View.{View}
use Rattle.evl_words.specs.Events.{World, Steps, world_after, seat_after}
use Rattle.evl_words.specs.Hands.{Hand, Deals, place, hand_from, first_of, rest_of}

pub record Dealing (E H : Type 0) : Type 0 where
  pub world : World E H
  pub hands : List (Hand (View E H))

-- A hand of one seat makes a step. A hand is split after its first seat, and the rest is a new hand. A hand takes in another, which is left with no seat: the first carries all that the other's seats hold and made
pub data DealingEvent (K : Type 0) : Type 0 where
  acts : ℕ → K → DealingEvent K
  cuts : ℕ → DealingEvent K
  gathers : ℕ → ℕ → DealingEvent K

module _ {E H K : Type 0} where
  abbrev pub DealingStep : Steps E H K → Dealing E H → DealingEvent K → Dealing E H → Type 0
  DealingStep s d (acts id kind) t = (k : ℕ) × (v : View E H) × (get_elem? d.hands id ≡ some (place k v ∷ [])) × s.may k v kind
      × (t ≡ record { world = world_after s d.world k v kind; hands = slice_set d.hands id (place k (seat_after s d.world.word d.world.log k v kind) ∷ []) })
  DealingStep s d (cuts id) t = (hand : Hand (View E H)) × (get_elem? d.hands id ≡ some hand) × (t ≡ record { world = d.world; hands = slice_set d.hands id (first_of hand) ++ rest_of hand ∷ [] })
  DealingStep s d (gathers id other) t = (hand theirs : Hand (View E H)) × (get_elem? d.hands id ≡ some hand) × (other ≢ id) × (get_elem? d.hands other ≡ some theirs)
      × (t ≡ record { world = d.world; hands = slice_set (slice_set d.hands id (hand ++ theirs)) other [] })

-- at the opening the word is 0, nothing has happened, and one hand has all seats
abbrev pub opened_dealing : {E H : Type 0} → List (View E H) → Dealing E H
opened_dealing views = record { world = record { word = 0; log = []; views = views }; hands = hand_from 0 views ∷ [] }

-- the world is consistent, no seat is in two hands, and each hand has the views of its seats
abbrev pub Holds : {E H : Type 0} → (World E H → Type 0) → Dealing E H → Type 0
Holds Stands d = Stands d.world × Deals d.world.views d.hands
