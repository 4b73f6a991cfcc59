-- The results for what is asked of all orders.
use Rattle.std.specs.Prelude.{◌+◌, ℕ, Bool, true, false, not, ◌&&◌, ◌||◌, nat_lt, if◌then◌else◌, is_some, List, [], ◌∷◌, length, slice_get, Option, Some, None}
use Rattle.std.specs.Option.{option_map_or}
use Rattle.lab_orders.specs.declared.firsts.First.{First}
use Rattle.lab_orders.specs.declared.firsts.First.TheVariants.{Nowhere, After}
use Rattle.lab_scenario_orders.specs.declared.asks.Ask.{Ask}
use Rattle.lab_scenario_orders.specs.declared.outcomes.Outcomes.{Outcomes}
use Rattle.lab_scenario_orders.specs.declared.watches.Watch.{Watch}
use Rattle.lab_scenario_orders.specs.declared.watches.When.{When}
use Rattle.lab_scenario_orders.specs.declared.watches.When.TheVariants.{Never, Sometimes, Always}

abbrev pub is_asked : Ask → Bool
is_asked asks =
    (((asks.always_ends || asks.ends_waits) || nat_lt 0 (length asks.never.items)) || nat_lt 0 (length asks.watches.items)) || is_some asks.outcomes

-- The answer found to a question about moments is against it: a moment as it looks for, but where it is asked that there is
-- one; there, that there is none, if nothing was cut off.
abbrev pub is_found_against : When → Bool → First → Bool
is_found_against Never whole (After order) = true
is_found_against Sometimes whole (After order) = false
is_found_against Always whole (After order) = true
is_found_against Never whole Nowhere = false
is_found_against Sometimes whole Nowhere = whole
is_found_against Always whole Nowhere = false

abbrev pub is_state_against : List First → Bool → ℕ → When → Bool
is_state_against firsts whole place when = option_map_or (is_found_against when whole) (slice_get firsts place) false

-- the place of the first of these questions, from this place on
abbrev pub state_against : List First → Bool → ℕ → List Watch → Option ℕ
state_against firsts whole place [] = None
state_against firsts whole place (watch ∷ rest) = if is_state_against firsts whole place watch.when then Some place else state_against firsts whole (place + 1) rest

abbrev pub first_state : Ask → Outcomes → Option ℕ
first_state asks found = state_against found.firsts.items found.whole 0 asks.watches.items

-- other outcomes are found than as many as are asked for; where longer orders were cut off, more
abbrev pub is_count_against : Option ℕ → Bool → ℕ → Bool
is_count_against None whole count = false
is_count_against (Some wanted) whole count = nat_lt wanted count || (whole && nat_lt count wanted)

-- an outcome, a moment or their number is against it
abbrev pub is_any_against : Ask → Outcomes → Option ℕ → Bool
is_any_against asks found place = is_some place || (is_some (first_state asks found) || is_count_against asks.outcomes found.whole (length found.all.items))

-- 1: something is against what is asked; 5: nothing is, and longer orders were cut off; 0: it holds, or nothing is asked
abbrev pub verdict : Ask → Outcomes → Option ℕ → ℕ
verdict asks found place = if is_any_against asks found place then 1 else if is_asked asks && not found.whole then 5 else 0
