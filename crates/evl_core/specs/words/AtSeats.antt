-- A thread's seats at elements of one kind, the k-th at element k.
use Rattle.std.specs.Prelude.{◌≡◌, ℕ, ◌≤◌, List, [], ◌∷◌, ◌++◌, length, sum_by, Some, slice_get, slice_set}

-- the i-th seat alone changes, and by this
pub record AtSeat {S : Type 0} (i : ℕ) (old new : List S) (step : S → S → Type 0) : Type 0 where
  pub was : S
  pub is : S
  pub there : slice_get old i ≡ Some was
  pub changed : new ≡ slice_set old i is
  pub does : step was is

-- Each seat is at the number of its element. There are no more than a board has elements of a kind, none has more than 255 passes, and this is how many they have together
pub record AreCounted {S : Type 0} (number passes : S → ℕ) (seats : List S) (count : ℕ) : Type 0 where
  pub few : length seats ≤ 32
  pub placed : (k : ℕ) (seat : S) → slice_get seats k ≡ Some seat → number seat ≡ k
  pub bounded : (k : ℕ) (seat : S) → slice_get seats k ≡ Some seat → passes seat ≤ 255
  pub counted : count ≡ sum_by passes seats

-- the lists once each seat has come to the end of one, the k-th of the k-th
abbrev pub dealt : {S : Type 0} → List (List S) → List S → List (List S)
dealt [] seats = []
dealt (list ∷ lists) [] = list ∷ lists
dealt (list ∷ lists) (seat ∷ seats) = (list ++ seat ∷ []) ∷ dealt lists seats
