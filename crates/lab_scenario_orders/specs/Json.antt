-- The report of all orders, as JSON.
use Rattle.std.specs.Prelude.{ℕ, Bool, true, false, ◌+◌, ◌==◌, List, [], ◌∷◌, ◌++◌, codes, decimal, if◌then◌else◌, slice_get, string_bytes, Option}
use Rattle.std.specs.Option.{option_map_or}
use Rattle.std.specs.Str.Lines.{lines}
use Rattle.lab_orders.specs.declared.firsts.First.{First}
use Rattle.lab_orders.specs.declared.firsts.First.TheVariants.{Nowhere, After}
use Rattle.lab_orders.specs.declared.tallies.Tally.{Tally}
use Rattle.lab_scenario_orders.specs.Asks.{is_against}
use Rattle.lab_scenario_orders.specs.WatchTexts.{when_key}
use Rattle.lab_scenario_orders.specs.declared.asks.Ask.{Ask}
use Rattle.lab_scenario_orders.specs.declared.callers.Caller.{Caller}
use Rattle.lab_scenario_orders.specs.declared.callers.Callers.{Callers}
use Rattle.lab_scenario_orders.specs.declared.outcomes.Outcomes.{Outcomes}
use Rattle.lab_scenario_orders.specs.declared.watches.Watch.{Watch}
use Rattle.lab_scenario_orders.specs.declared.watches.When.{When}
use Rattle.lab_scenario_orders.specs.declared.watches.When.TheVariants.{Never, Sometimes, Always}

abbrev pub truth_text : Bool → List ℕ
truth_text truth = if truth then codes "true" else codes "false"

-- before all but the first of some values
abbrev pub comma : ℕ → List ℕ
comma place = if place == 0 then [] else codes ","

-- who makes a step, and each of these from a place on
abbrev pub name_json : List Caller → ℕ → List ℕ
name_json callers n = option_map_or (λ caller. codes "\"T" ++ (decimal caller.who.0 ++ codes "\"")) (slice_get callers n) (codes "null")

abbrev pub names_from : List Caller → ℕ → List ℕ → List ℕ
names_from callers place [] = []
names_from callers place (n ∷ order) = comma place ++ (name_json callers n ++ names_from callers (place + 1) order)

abbrev pub order_json : List Caller → List ℕ → List ℕ
order_json callers order = codes "[" ++ (names_from callers 0 order ++ codes "]")

-- a line, and each of these from a place on
abbrev pub line_json : List ℕ → List ℕ
line_json line = codes "\"" ++ (line ++ codes "\"")

abbrev pub lines_from : ℕ → List (List ℕ) → List ℕ
lines_from place [] = []
lines_from place (line ∷ rest) = comma place ++ (line_json line ++ lines_from (place + 1) rest)

-- an outcome, and each of these from a place on
unfoldable pub begin_json : ℕ → Bool → List ℕ
begin_json count against = codes "{\"orders\":" ++ (decimal count ++ (codes ",\"against\":" ++ (truth_text against ++ codes ",\"told\":[")))

unfoldable pub end_json : List Caller → List ℕ → List ℕ
end_json callers order = codes "],\"order\":" ++ (order_json callers order ++ codes "}")

unfoldable pub outcome_json : List Caller → Ask → Tally → List ℕ
outcome_json callers ask outcome =
    begin_json outcome.count (is_against ask (string_bytes outcome.told)) ++ (lines_from 0 (lines (string_bytes outcome.told)) ++ end_json callers outcome.order.items)

abbrev pub outcomes_from : List Caller → Ask → ℕ → List Tally → List ℕ
outcomes_from callers ask place [] = []
outcomes_from callers ask place (outcome ∷ rest) = comma place ++ (outcome_json callers ask outcome ++ outcomes_from callers ask (place + 1) rest)

-- Whether a question about moments holds, by whether a moment as it looks for was found; where longer orders were cut off and
-- none was, nothing is known.
abbrev pub known_json : Bool → List ℕ → List ℕ
known_json whole text = if whole then text else codes "null"

abbrev pub holds_json : When → Bool → Bool → List ℕ
holds_json Sometimes found whole = if found then codes "true" else known_json whole (codes "false")
holds_json Never found whole = if found then codes "false" else known_json whole (codes "true")
holds_json Always found whole = if found then codes "false" else known_json whole (codes "true")

abbrev pub found_json : Watch → Bool → Bool → List ℕ
found_json watch found whole =
    codes "{\"" ++ (when_key watch.when ++ (codes "\":\"" ++ (string_bytes watch.text ++ (codes "\",\"holds\":" ++ (holds_json watch.when found whole ++ codes ",\"order\":")))))

abbrev pub first_json : List Caller → Bool → Watch → First → List ℕ
first_json callers whole watch Nowhere = found_json watch false whole ++ codes "null}"
first_json callers whole watch (After order) = found_json watch true whole ++ (order_json callers order.items ++ codes "}")

abbrev pub state_json_at : List Caller → Outcomes → ℕ → Watch → List ℕ
state_json_at callers found place watch = option_map_or (first_json callers found.whole watch) (slice_get found.firsts.items place) (codes "null")

abbrev pub states_from : List Caller → Outcomes → ℕ → List Watch → List ℕ
states_from callers found place [] = []
states_from callers found place (watch ∷ rest) = comma place ++ (state_json_at callers found place watch ++ states_from callers found (place + 1) rest)

-- ---- all

abbrev pub wanted_json : Option ℕ → List ℕ
wanted_json wanted = option_map_or decimal wanted (codes "null")

unfoldable pub orders_json : Outcomes → List ℕ
orders_json found = codes "{\"orders\":" ++ (decimal found.count ++ (codes ",\"moments\":" ++ decimal found.moments))

unfoldable pub steps_json : ℕ → List ℕ
steps_json steps = codes ",\"steps\":" ++ decimal steps

unfoldable pub whole_json : Bool → List ℕ
whole_json whole = codes ",\"whole\":" ++ (truth_text whole ++ codes ",\"outcomes_asked\":")

unfoldable pub head_json : Ask → Outcomes → List ℕ
head_json ask found = orders_json found ++ (steps_json found.steps ++ (whole_json found.whole ++ wanted_json ask.outcomes))

unfoldable pub states_json : List Caller → Outcomes → List Watch → List ℕ
states_json callers found watches = codes ",\"states\":[" ++ (states_from callers found 0 watches ++ codes "]")

unfoldable pub outcomes_json : List Caller → Ask → List Tally → List ℕ
outcomes_json callers ask outcomes = codes ",\"outcomes\":[" ++ (outcomes_from callers ask 0 outcomes ++ codes "]}\n")

-- rule: As JSON, the report has the counts, for each question about moments whether it holds (`null` where it was cut
--   off and no order decides it) with its order, and of each outcome its orders, whether it is against what is asked,
--   its lines and its order.
--   clauses: write_json
abbrev pub json_text : Callers → Ask → Outcomes → List ℕ
json_text c ask found = head_json ask found ++ (states_json c.callers.items found ask.watches.items ++ outcomes_json c.callers.items ask found.all.items)
