-- Outcomes, each once.
use Rattle.std.specs.Prelude.{ℕ, ◌*◌, ◌≡◌, ◌≢◌, ◌⊎◌, List, [], ◌∷◌, ◌++◌, map, AllPairs, sum_by, string_bytes}
use Rattle.lab_orders.specs.declared.tallies.Tally.{Tally}

-- a number of each outcome's text, over all orders that end so
abbrev pub told_weight : (List ℕ → ℕ) → List Tally → ℕ
told_weight f tallies = sum_by (λ tally. tally.count * f (string_bytes tally.told)) tallies

abbrev pub texts : List Tally → List (List ℕ)
texts tallies = map (λ tally. string_bytes tally.told) tallies

-- no two outcomes are reported alike
abbrev pub AreDistinct : List Tally → Type 0
AreDistinct tallies = AllPairs (λ one other. one ≢ other) (texts tallies)

-- what is reported of an outcome, and its order
abbrev pub first_of : Tally → List ℕ × List ℕ
first_of outcome = (string_bytes outcome.told, outcome.order.items)

-- outcomes keep their orders, and a new one may come after them
abbrev pub KeepsFirsts : List Tally → Tally → List Tally → Type 0
KeepsFirsts old tally new = (map first_of new ≡ map first_of old) ⊎ (map first_of new ≡ map first_of old ++ first_of tally ∷ [])
