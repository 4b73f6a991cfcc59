-- Two tokens of one table that are one for a moment, in which they look at a word, and what that says of them.
use Rattle.std.specs.Prelude.{◌≡◌, ℕ, [], ◌∷◌}
use mathlib.Core.Option.{some}
use lib.ListN.{get_elem?}
use Rattle.atomic_table.specs.Table.{State, Me, Step}
use Rattle.evl_words.specs.declared.history.Place.{Place}
use Rattle.evl_words.specs.Hands.{Hand}

module _ {V : Type 0} where
  -- the places of two tokens that have one each are together so
  abbrev pub AreTogether : (Place V → Place V → Type 0) → Hand V → Hand V → Type 0
  AreTogether together one other = (p q : Place V) → one ≡ p ∷ [] → other ≡ q ∷ [] → together p q

module _ {S V : Type 0} where
  -- a token that has one place, and no slot
  abbrev pub IsAlone : Me S (Hand V) → Type 0
  IsAlone me = (p : Place V) × (me ≡ (p ∷ [], []))

  -- whenever the rule holds and a token has two places, they are together so
  abbrev pub TellsOfTwo : (State S (Hand V) → Type 0) → (Place V → Place V → Type 0) → Type 0
  TellsOfTwo holds together = (s : State S (Hand V)) (id : ℕ) (p q : Place V) → holds s → get_elem? s.views id ≡ some (p ∷ q ∷ []) → together p q

  -- a look changes nothing, and says how the two places of its token are together
  abbrev pub looked : (Place V → Place V → Type 0) → Step S → Me S (Hand V) → ℕ → Me S (Hand V) → Type 0
  looked together st m found n = (n ≡ m) × ((p q : Place V) → m.0 ≡ p ∷ q ∷ [] → together p q)
