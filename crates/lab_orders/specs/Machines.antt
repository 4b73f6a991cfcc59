-- A machine that callers drive, and every order in which they may come.
use Rattle.std.specs.Prelude.{ℕ, zero, suc, ◌≡◌, ◌<◌, Bool, List, [], ◌∷◌, ◌++◌, All, Option, Some, is_none, option_map, option_and_then, filter, filter_map, flat_map}
use Rattle.std.specs.List.{list_all}

-- How many callers there are, and where the next step of one leads from a state: nowhere while it can make none.
pub record Machine (S : Type 0) : Type 0 where
  pub callers : ℕ
  pub go : S → ℕ → Option S

-- the numbers below n, in order
abbrev pub numbers_below : ℕ → List ℕ
numbers_below zero = []
numbers_below (suc n) = numbers_below n ++ n ∷ []

-- where steps of these callers lead, if each of them can be made
abbrev pub led_along : {S : Type 0} → Machine S → S → List ℕ → Option S
led_along m s [] = Some s
led_along m s (c ∷ order) = option_and_then (λ t. led_along m t order) (m.go s c)

-- nobody can make a step
abbrev pub is_over : {S : Type 0} → Machine S → S → Bool
is_over m s = list_all (λ c. is_none (m.go s c)) (numbers_below m.callers)

-- who made the steps, in their order, and where they led
pub record Run (S : Type 0) : Type 0 where
  pub order : List ℕ
  pub at : S

abbrev pub ran : {S : Type 0} → List ℕ → S → Run S
ran order s = record { order = order; at = s }

-- a run from here
pub record IsRun {S : Type 0} (m : Machine S) (s : S) (r : Run S) : Type 0 where
  pub by_callers : All (λ c. c < m.callers) r.order
  pub leads : led_along m s r.order ≡ Some r.at

-- a run with one step more
abbrev pub longer_by : {S : Type 0} → Machine S → Run S → ℕ → Option (Run S)
longer_by m r c = option_map (ran (r.order ++ c ∷ [])) (m.go r.at c)

abbrev pub longer : {S : Type 0} → Machine S → Run S → List (Run S)
longer m r = filter_map (longer_by m r) (numbers_below m.callers)

-- all runs of so many steps, by who makes the first, then the second, and so on
unfoldable pub runs : {S : Type 0} → Machine S → S → ℕ → List (Run S)
runs m s zero = ran [] s ∷ []
runs m s (suc k) = flat_map (longer m) (runs m s k)

-- All orders of fewer steps than this: the runs after which nobody can make one. The shortest come first.
unfoldable pub orders : {S : Type 0} → Machine S → S → ℕ → List (Run S)
orders m s zero = []
orders m s (suc k) = orders m s k ++ filter (λ r. is_over m r.at) (runs m s k)
