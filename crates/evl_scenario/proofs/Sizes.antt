-- A list that isn't a pair gives no sizes.
use Rattle.std.proofs.Common.{arith, ◌≡◌, ◌<◌, ◌≤◌, List, [], ◌∷◌, length, None, refl}
use Rattle.toml.specs.View.{items_view}
use Rattle.toml.specs.declared.value.Value.{Value}
use Rattle.evl_scenario.specs.Values.{two_sizes}

pub two_sizes_fewer : (values : List Value) → length values < 2 → None ≡ two_sizes (items_view values)
two_sizes_fewer [] h = refl
two_sizes_fewer (a ∷ []) h = refl
two_sizes_fewer (a ∷ b ∷ rest) h = absurd (omega arith)

pub two_sizes_more : (values : List Value) → 3 ≤ length values → None ≡ two_sizes (items_view values)
two_sizes_more [] h = refl
two_sizes_more (a ∷ []) h = refl
two_sizes_more (a ∷ b ∷ []) h = absurd (omega arith)
two_sizes_more (a ∷ b ∷ c ∷ rest) h = refl
