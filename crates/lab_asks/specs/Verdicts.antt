-- The results for what is asked of all orders.
use Rattle.std.specs.Prelude.{◌+◌, ◌-◌, ◌^◌, ◌==◌, min, ℕ, if◌then◌else◌, is_some, List, ◌++◌, codes, length, decimal, Option, Some, None}
use Rattle.lab_scenario_orders.specs.Verdicts.{asks_anything, is_count_against, state_against}
use Rattle.lab_scenario_orders.specs.declared.asks.Ask.{Ask}
use Rattle.lab_scenario_orders.specs.declared.outcomes.Outcomes.{Outcomes}

abbrev pub ends_words : Ask → List ℕ
ends_words asks =
    if asks.always_ends
    then (if asks.ends_waits then codes "always_ends, ends_waits, " else codes "always_ends, ")
    else (if asks.ends_waits then codes "ends_waits, " else codes "")

abbrev pub picked_words : Ask → List ℕ
picked_words asks = if asks.as_picked then codes " as threads are picked" else codes ""

-- how many questions about moments there are, where there are some
abbrev pub watch_words : ℕ → List ℕ
watch_words count = if count == 0 then codes "" else if count == 1 then codes ", 1 state" else codes ", " ++ (decimal count ++ codes " states")

abbrev pub count_words : Ask → List ℕ
count_words asks = if is_some asks.outcomes then codes ", outcomes" else codes ""

-- what is asked of the ends of orders, what of moments and of the number of outcomes, and in how many orders it holds
abbrev pub ends_text : List ℕ → Ask → List ℕ
ends_text name asks = codes "lab: " ++ (name ++ (codes ": " ++ (ends_words asks ++ (decimal (length asks.never.items) ++ codes " never"))))

abbrev pub moments_text : Ask → List ℕ
moments_text asks = watch_words (length asks.watches.items) ++ count_words asks

abbrev pub count_text : Ask → ℕ → List ℕ
count_text asks count = codes ": hold in all " ++ (decimal count ++ (codes " orders" ++ (picked_words asks ++ codes "\n")))

-- it holds in all orders, of which there are so many
abbrev pub holds_text : List ℕ → Ask → ℕ → List ℕ
holds_text name asks count = ends_text name asks ++ (moments_text asks ++ count_text asks count)

-- orders of so many steps were cut off
abbrev pub unanswered_text : List ℕ → ℕ → List ℕ
unanswered_text name steps = codes "lab: " ++ (name ++ (codes ": not answered: cut off at orders of " ++ (decimal steps ++ codes " steps\n")))

-- no outcome is against what is asked: where nothing is asked, nothing is said
abbrev pub none_text : List ℕ → Ask → Outcomes → List ℕ
none_text name asks found = if asks_anything asks then (if found.whole then holds_text name asks found.count else unanswered_text name found.steps) else codes ""

abbrev pub none_status : Ask → Outcomes → ℕ
none_status asks found = if asks_anything asks then (if found.whole then 0 else 5) else 0

abbrev pub wanted_text : List ℕ → Ask → Outcomes → Option ℕ → List ℕ
wanted_text name asks found None = none_text name asks found
wanted_text name asks found (Some wanted) =
    if is_count_against wanted found.whole (length found.all.items)
    then codes "lab: " ++ (name ++ (codes ": outcomes: " ++ (decimal (length found.all.items) ++ (codes ", and not " ++ (decimal wanted ++ codes "\n")))))
    else none_text name asks found

abbrev pub wanted_status : Ask → Outcomes → Option ℕ → ℕ
wanted_status asks found None = none_status asks found
wanted_status asks found (Some wanted) = if is_count_against wanted found.whole (length found.all.items) then 1 else none_status asks found

abbrev pub number_text : List ℕ → Ask → Outcomes → List ℕ
number_text name asks found = wanted_text name asks found asks.outcomes

abbrev pub number_status : Ask → Outcomes → ℕ
number_status asks found = wanted_status asks found asks.outcomes

abbrev pub first_state : Ask → Outcomes → Option ℕ
first_state asks found = state_against found.firsts.items found.whole 0 asks.watches.items

-- the question with this number is, from 1; or else what is said of the number of outcomes
abbrev pub state_text : List ℕ → Ask → Outcomes → Option ℕ → List ℕ
state_text name asks found None = number_text name asks found
state_text name asks found (Some place) = codes "lab: " ++ (name ++ (codes ": state " ++ (decimal (min (place + 1) (2 ^ 64 - 1)) ++ codes " is against what is asked\n")))

abbrev pub state_status : Ask → Outcomes → Option ℕ → ℕ
state_status asks found None = number_status asks found
state_status asks found (Some place) = 1

abbrev pub states_text : List ℕ → Ask → Outcomes → List ℕ
states_text name asks found = state_text name asks found (first_state asks found)

abbrev pub states_status : Ask → Outcomes → ℕ
states_status asks found = state_status asks found (first_state asks found)

-- or the outcome with this number is against it, from 1
abbrev pub asked_text : List ℕ → Ask → Outcomes → Option ℕ → List ℕ
asked_text name asks found None = states_text name asks found
asked_text name asks found (Some place) = codes "lab: " ++ (name ++ (codes ": outcome " ++ (decimal (min (place + 1) (2 ^ 64 - 1)) ++ codes " is against what is asked\n")))

abbrev pub asked_status : Ask → Outcomes → Option ℕ → ℕ
asked_status asks found None = states_status asks found
asked_status asks found (Some place) = 1
