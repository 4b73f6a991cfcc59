-- The first of the best of a list, found one by one. No public clause speaks of it.
use Rattle.std.specs.Prelude.{Bool, List, [], ◌∷◌, Option, Some, None, if◌then◌else◌}

module _ {A : Type 0} (before : A → A → Bool) where
  -- of two the first, where it may go before the other
  abbrev pub better : Option A → Option A → Option A
  better None b = b
  better (Some a) None = Some a
  better (Some a) (Some b) = if before a b then Some a else Some b

  -- the first that may go before each
  abbrev pub best : List A → Option A
  best [] = None
  best (x ∷ xs) = better (Some x) (best xs)
