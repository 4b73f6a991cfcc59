-- The report of all orders, as a text.
use Rattle.std.specs.Prelude.{ℕ, Bool, true, false, ◌||◌, ◌+◌, ◌==◌, List, [], ◌∷◌, ◌++◌, codes, flat_map, if◌then◌else◌, length, slice_get, string_bytes}
use Rattle.std.specs.Fmt.{decimal}
use Rattle.std.specs.Option.{option_map_or}
use Rattle.std.specs.Str.Lines.{lines}
use Rattle.lab_orders.specs.declared.firsts.First.{First}
use Rattle.lab_orders.specs.declared.firsts.First.TheVariants.{Nowhere, After}
use Rattle.lab_orders.specs.declared.tallies.Tally.{Tally}
use Rattle.evl_scenario.specs.Lines.{line_feed}
use Rattle.lab_scenario_orders.specs.Scenarios.{order_scenario}
use Rattle.lab_scenario_orders.specs.Warnings.{warnings_text}
use Rattle.lab_scenario_orders.specs.WatchTexts.{when_key}
use Rattle.lab_scenario_orders.specs.declared.callers.Caller.{Caller}
use Rattle.lab_scenario_orders.specs.declared.callers.Callers.{Callers}
use Rattle.lab_scenario_orders.specs.declared.outcomes.Outcomes.{Outcomes}
use Rattle.lab_scenario_orders.specs.declared.watches.Watch.{Watch}
use Rattle.lab_scenario_orders.specs.declared.watches.When.{When}
use Rattle.lab_scenario_orders.specs.declared.watches.When.TheVariants.{Never, Sometimes, Always}

-- a number with its word, of which there is one or of which there are others
abbrev pub number_text : ℕ → List ℕ → List ℕ
number_text n word = decimal n ++ (codes " " ++ (word ++ (if n == 1 then [] else codes "s")))

-- a line as a comment
abbrev pub comment : List ℕ → List ℕ
comment line = codes "# " ++ (line ++ line_feed)

-- who makes a step: the thread of the caller with this number
abbrev pub who_text : List Caller → ℕ → List ℕ
who_text callers n = option_map_or (λ caller. codes " T" ++ decimal caller.who.0) (slice_get callers n) []

abbrev pub order_text : List Caller → List ℕ → List ℕ
order_text callers order = codes "# order:" ++ (flat_map (who_text callers) order ++ line_feed)

-- how many orders lead to an outcome, what is reported of it, and the first of them
abbrev pub head_text : Callers → ℕ → Tally → List ℕ
head_text c n outcome =
    codes "# outcome " ++ (decimal n ++ (codes ": " ++ (number_text outcome.count (codes "order") ++ (line_feed
    ++ (flat_map comment (lines (string_bytes outcome.told)) ++ order_text c.callers.items outcome.order.items)))))

-- and that one as a scenario
abbrev pub outcome_text : Callers → ℕ → Tally → List ℕ
outcome_text c n outcome = head_text c n outcome ++ order_scenario c outcome.order.items

-- outcomes, numbered from n
abbrev pub outcomes_text : Callers → ℕ → List Tally → List ℕ
outcomes_text c n [] = []
outcomes_text c n (outcome ∷ rest) = outcome_text c n outcome ++ outcomes_text c (n + 1) rest

-- how many orders and outcomes there are
abbrev pub orders_text : Outcomes → List ℕ
orders_text outcomes = codes "# " ++ (number_text outcomes.count (codes "order") ++ (codes ", " ++ number_text (length outcomes.all.items) (codes "outcome")))

-- and how many moments were gone through, and whether longer orders were cut off
abbrev pub counts_text : Outcomes → List ℕ
counts_text outcomes =
    orders_text outcomes ++ (codes ", " ++ (number_text outcomes.moments (codes "moment") ++ (line_feed
    ++ (if outcomes.whole then [] else codes "# cut off: there are longer orders\n"))))

-- what came of a question about moments, by whether one as it looks for was found
abbrev pub found_text : When → Bool → List ℕ
found_text Never found = if found then codes "at a moment" else codes "at no moment"
found_text Sometimes found = if found then codes "at a moment" else codes "at no moment"
found_text Always found = if found then codes "not at each moment" else codes "at each moment"

-- of which moments this is reported, where longer orders were cut off and none was found
abbrev pub reach_text : Bool → Bool → List ℕ
reach_text found whole = if (found || whole) then line_feed else codes " that was gone through\n"

abbrev pub watch_line : ℕ → Watch → Bool → Bool → List ℕ
watch_line n watch found whole =
    codes "# state " ++ (decimal n ++ (codes ": " ++ (when_key watch.when ++ (codes ": " ++ (string_bytes watch.text ++ (codes ": " ++ (found_text watch.when found ++ reach_text found whole)))))))

-- an order, and the same as a scenario
abbrev pub way_text : Callers → List ℕ → List ℕ
way_text c order = order_text c.callers.items order ++ order_scenario c order

-- with the first order that leads to one
abbrev pub state_text : Callers → Bool → ℕ → Watch → First → List ℕ
state_text c whole n watch Nowhere = watch_line n watch false whole
state_text c whole n watch (After order) = watch_line n watch true whole ++ way_text c order.items

abbrev pub state_at : Callers → Bool → ℕ → Watch → List First → List ℕ
state_at c whole place watch firsts = option_map_or (state_text c whole (place + 1) watch) (slice_get firsts place) []

-- of the questions from this place on
abbrev pub states_text : Callers → Bool → ℕ → List Watch → List First → List ℕ
states_text c whole place [] firsts = []
states_text c whole place (watch ∷ rest) firsts = state_at c whole place watch firsts ++ states_text c whole (place + 1) rest firsts

abbrev pub report_text : Callers → List Watch → Outcomes → List ℕ
report_text c watches outcomes = counts_text outcomes ++ (warnings_text c outcomes ++ (states_text c outcomes.whole 0 watches outcomes.firsts.items ++ outcomes_text c 1 outcomes.all.items))
