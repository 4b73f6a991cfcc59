-- The questions about each moment.
use Rattle.std.specs.Prelude.{ℕ, ◌≡◌, Bool, false, not, List, All, string_bytes, None, slice_get}
use Rattle.std.specs.Option.{option_map_or}
use Rattle.evl_base.specs.declared.board.Board.{Board}
use Rattle.evl_kernel.specs.state.States.{State}
use Rattle.lab_scenario_orders.specs.Claims.{Claims, first_lacked}
use Rattle.lab_scenario_orders.specs.Facts.{are_all_so}
use Rattle.lab_scenario_orders.specs.declared.watches.Watch.{Watch}
use Rattle.lab_scenario_orders.specs.declared.watches.When.{When}
use Rattle.lab_scenario_orders.specs.declared.watches.When.TheVariants.{Never, Sometimes, Always}

-- a moment is looked for by whether facts are so there
abbrev pub is_noted_by : When → Bool → Bool
is_noted_by Never is_so = is_so
is_noted_by Sometimes is_so = is_so
is_noted_by Always is_so = not is_so

-- the records are as is looked for: the facts are so, or, where they are asked for at each moment, they aren't
abbrev pub is_noted : State → Watch → Bool
is_noted s watch = is_noted_by watch.when (are_all_so s watch.claims.items)

-- of the one with this number
abbrev pub is_noted_at : List Watch → ℕ → State → Bool
is_noted_at watches n s = option_map_or (is_noted s) (slice_get watches n) false

-- each claims what its text says, and names nothing that the board lacks
pub record IsWatch (board : Board) (watch : Watch) : Type 0 where
  pub claims : Claims (string_bytes watch.text) watch.claims.items
  pub there : first_lacked board watch.claims.items ≡ None

abbrev pub AreWatches : Board → List Watch → Type 0
AreWatches board watches = All (IsWatch board) watches
