-- The moment that one order leads to.
use Rattle.std.specs.Prelude.{ℕ, ◌≡◌, ◌<◌, List, Some, None, length, slice_index_or, take}
use Rattle.lab_orders.specs.Machines.{Machine, led_along}
use Rattle.lab_orders.specs.declared.leading.Led.{Led}
use Rattle.lab_orders.specs.declared.leading.Led.TheVariants.{To, Stuck}

-- so many steps of an order can be made, and the next one can't
pub record IsStuck {S : Type 0} (m : Machine S) (s : S) (order : List ℕ) (made : ℕ) : Type 0 where
  pub within : made < length order
  pub at : S
  pub leads : led_along m s (take made order) ≡ Some at
  pub none : m.go at (slice_index_or order made 0) ≡ None

abbrev pub LeadsSo : {M S : Type 0} → Machine S → (M → S) → S → List ℕ → Led M → Type 0
LeadsSo m state s order (To moment) = led_along m s order ≡ Some (state moment)
LeadsSo m state s order (Stuck made) = IsStuck m s order made
