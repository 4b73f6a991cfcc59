-- All that is against what is asked.
use Rattle.std.specs.Prelude.{◌+◌, ℕ, Bool, true, false, ◌&&◌, ◌||◌, nat_lt, if◌then◌else◌, is_some, List, [], ◌∷◌, length, slice_get, Option, Some, None}
use Rattle.std.specs.Option.{option_map_or}
use Rattle.lab_orders.specs.declared.firsts.First.{First}
use Rattle.lab_orders.specs.declared.firsts.First.TheVariants.{Nowhere, After}
use Rattle.lab_scenario_orders.specs.declared.asks.Ask.{Ask}
use Rattle.lab_scenario_orders.specs.declared.watches.Watch.{Watch}
use Rattle.lab_scenario_orders.specs.declared.watches.When.{When}
use Rattle.lab_scenario_orders.specs.declared.watches.When.TheVariants.{Never, Sometimes, Always}

-- something is asked
abbrev pub asks_anything : Ask → Bool
asks_anything asks =
    (((asks.always_ends || asks.ends_waits) || nat_lt 0 (length asks.never.items)) || nat_lt 0 (length asks.watches.items)) || is_some asks.outcomes

-- other outcomes are found than as many as are asked for; where longer orders were cut off, more
abbrev pub is_count_against : ℕ → Bool → ℕ → Bool
is_count_against wanted whole count = nat_lt wanted count || (whole && nat_lt count wanted)

-- The result of a question about moments is against it: a moment as it looks for, but where it is asked that there is
-- one; there, that there is none, if nothing was cut off.
abbrev pub is_found_against : When → Bool → First → Bool
is_found_against Never whole (After order) = true
is_found_against Sometimes whole (After order) = false
is_found_against Always whole (After order) = true
is_found_against Never whole Nowhere = false
is_found_against Sometimes whole Nowhere = whole
is_found_against Always whole Nowhere = false

abbrev pub is_state_against : List First → Bool → ℕ → When → Bool
is_state_against firsts whole place when = option_map_or (is_found_against when whole) (slice_get firsts place) false

-- the place of the first of these, from this place on
abbrev pub state_against : List First → Bool → ℕ → List Watch → Option ℕ
state_against firsts whole place [] = None
state_against firsts whole place (watch ∷ rest) = if is_state_against firsts whole place watch.when then Some place else state_against firsts whole (place + 1) rest
