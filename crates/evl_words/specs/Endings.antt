-- The hands of a word's table: dealt out where it is new, put together where it is closed, and what is then known.
use Rattle.std.specs.Prelude.{◌≡◌, ℕ, zero, suc, List, [], ◌∷◌, get_or}
use mathlib.Core.Option.{some}
use lib.ListN.{get_elem?}
use Rattle.atomic_table.specs.Table.{State, Joins, Splits}

module _ {H : Type 0} where
  -- any hand may be cut so
  abbrev pub SplitsBy : (H → H) → (H → H) → (State (Unit {0}) H → Type 0) → Type 0
  SplitsBy left right holds = (id : ℕ) (v : H) → Splits holds id v (left v) (right v)

  -- what is left of a hand after so many cuts
  abbrev pub left_after : (H → H) → H → ℕ → H
  left_after right hand zero = hand
  left_after right hand (suc k) = right (left_after right hand k)

  -- any two hands may be put together so
  abbrev pub JoinsBy : (H → H → H) → H → (State (Unit {0}) H → Type 0) → Type 0
  JoinsBy both spent holds = (id : ℕ) (v : H) (other : ℕ) (w : H) → Joins holds id v other w (both v w) spent

  -- a hand to which those of these seats are put, the last one first
  abbrev pub joined : {S : Type 0} → (H → H → H) → (S → H) → H → List S → H
  joined both hand_of hand [] = hand
  joined both hand_of hand (seat ∷ seats) = both (joined both hand_of hand seats) (hand_of seat)

  -- the last state keeps the rule, and has this word
  pub record Ends (holds : State (Unit {0}) H → Type 0) (word : ℕ) : Type 0 where
    pub state : State (Unit {0}) H
    pub kept : holds state
    pub shown : word ≡ get_or state.words 0 0

  -- the same, and a token has this hand
  pub record EndsWith (holds : State (Unit {0}) H → Type 0) (hand : H) (word : ℕ) : Type 0 where
    pub ends : Ends holds word
    pub token : ℕ
    pub there : get_elem? ends.state.views token ≡ some hand
