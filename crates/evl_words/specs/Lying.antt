-- A table of one word that lies as a world: its word, and the hands of its tokens.
use Rattle.std.specs.Prelude.{◌≡◌, ℕ, List, [], ◌∷◌, length}
use Rattle.atomic_table.specs.Table.{State}
use Rattle.evl_words.specs.declared.history.View.{View}
use Rattle.evl_words.specs.Events.{World}
use Rattle.evl_words.specs.Hands.{Hand}
use Rattle.evl_words.specs.Dealings.{Dealing, Holds}

-- the table has this word, these hands, and so many seats
pub record LiesAlone {S E H : Type 0} (seats : ℕ) (s : State S (Hand (View E H))) (d : Dealing E H) : Type 0 where
  pub word : s.words ≡ d.world.word ∷ []
  pub hands : s.views ≡ d.hands
  pub all : length d.world.views ≡ seats

-- some world as which the table lies keeps its conditions
abbrev pub LiesInWorld : {S E H : Type 0} → (World E H → Type 0) → ℕ → State S (Hand (View E H)) → Type 0
LiesInWorld {S} {E} {H} Stands seats s = (d : Dealing E H) × LiesAlone seats s d × Holds Stands d
