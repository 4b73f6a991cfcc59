-- The common history of an object that callers share, and what each of its seats knows of it.
use Rattle.std.specs.Prelude.{◌≡◌, ◌⊎◌, ℕ, ◌≤◌, ◌==◌, List, [], ◌∷◌, ◌++◌, length, map, filter}
use mathlib.Core.List.{IsPrefix}
use mathlib.Core.Option.{some}
use lib.ListN.{get_elem?}
use Rattle.evl_words.specs.declared.history.View.{View}
use Rattle.evl_words.specs.Machine.{Run, IsLegal}

-- the view of a seat that has seen this history, in which these entries are its own
abbrev pub view_of : {E H : Type 0} → List E → List E → H → View E H
view_of seen mine held = record { seen = seen; mine = mine; held = held }

module _ {E : Type 0} (author : E → ℕ) where
  -- the entries that a seat made
  abbrev pub entries_of : ℕ → List E → List E
  entries_of seat log = filter (λ e. author e == seat) log

  module _ {H : Type 0} where
    -- The history begins with what the seat has seen, and the seat's own entries are all that the history has of it, and all in what it has seen
    pub record Fits (log : List E) (seat : ℕ) (v : View E H) : Type 0 where
      pub seen : IsPrefix v.seen log
      pub own : entries_of seat log ≡ v.mine
      pub known : entries_of seat v.seen ≡ v.mine

    -- One of two seats' seen histories is the beginning of the other, and the longer one has just the other's own entries of its seat
    abbrev pub SeeOneHistory : ℕ → View E H → ℕ → View E H → Type 0
    SeeOneHistory j u k v = Fits v.seen j u ⊎ Fits u.seen k v

    module _ {S : Type 0} (step : S → E → S → Type 0) (opening : S) where
      -- A legal history that ends in a state, and that all views fit, seat k's view being the k-th. It has the entries of these seats and of no others, and its last state is tied to what the seats hold
      pub record History (tie : S → List H → Type 0) (log : List E) (state : S) (views : List (View E H)) : Type 0 where
        pub run : Run step opening log state
        pub fits : (seat : ℕ) (v : View E H) → get_elem? views seat ≡ some v → Fits log seat v
        pub others : (seat : ℕ) → length views ≤ seat → entries_of seat log ≡ []
        pub tied : tie state (map (λ v. v.held) views)

      -- The seat saw a legal history that goes on from what it had seen and ends with these entries, which are so many more of its own
      pub record Extends (seat : ℕ) (v : View E H) (entries : List E) (w : View E H) : Type 0 where
        pub between : List E
        pub seen : w.seen ≡ (v.seen ++ between) ++ entries
        pub legal : IsLegal step opening w.seen
        pub mine : w.mine ≡ v.mine ++ entries
        pub own : entries_of seat w.seen ≡ w.mine

      abbrev pub Looks : ℕ → View E H → View E H → Type 0
      Looks seat v w = Extends seat v [] w

      abbrev pub Appends : ℕ → View E H → E → View E H → Type 0
      Appends seat v entry w = Extends seat v (entry ∷ []) w
