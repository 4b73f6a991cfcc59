-- The report of `lab orders` on the outcomes of all orders.
use Rattle.std.specs.Prelude.{◌≡◌, ◌⊎◌, ◌-◌, ℕ, List, ◌++◌, codes, decimal, flat_map, length, position, slice_get, string_bytes, Option, Some, None, option_and_then}
use Rattle.evl_kernel.specs.state.States.{Handler}
use Rattle.lab_orders.specs.declared.firsts.First.{First}
use Rattle.lab_orders.specs.declared.firsts.First.TheVariants.{Nowhere, After}
use Rattle.lab_orders.specs.declared.levels.OrdersError.TheVariants.{Count}
use Rattle.lab_orders.specs.declared.tallies.Tally.{Tally}
use Rattle.lab_scenario_orders.specs.Asks.{is_against}
use Rattle.lab_scenario_orders.specs.Json.{json_text}
use Rattle.lab_scenario_orders.specs.Outcomes.{AreOutcomes, CanNotTell}
use Rattle.lab_orders.specs.Answers.{answers_text}
use Rattle.lab_scenario_orders.specs.Reports.{counts_text, report_text}
use Rattle.lab_scenario_orders.specs.declared.asks.Ask.{Ask}
use Rattle.lab_scenario_orders.specs.declared.callers.Caller.{Caller}
use Rattle.lab_scenario_orders.specs.declared.callers.Callers.{Callers}
use Rattle.lab_scenario_orders.specs.declared.outcomes.Outcomes.{Outcomes}
use Rattle.lab_streams.specs.Endings.{line_about}
use Rattle.lab_streams.specs.Outputs.{Output, refuses}
use Rattle.lab_asks.specs.OneOrder.{order_of}
use Rattle.lab_asks.specs.Verdicts.{asked_status, asked_text}
use Rattle.lab_asks.specs.declared.orders.View.{View}
use Rattle.lab_asks.specs.declared.orders.View.TheVariants.{Report, Json, Outcome, State, Answers}

-- the place of the first outcome that is against what is asked
unfoldable pub first_against : Ask → List Tally → Option ℕ
first_against asks outcomes = position (λ outcome. is_against asks (string_bytes outcome.told)) outcomes

-- the report of outcomes
unfoldable pub report_of : Callers → Ask → Outcomes → List ℕ
report_of callers asks found = report_text callers asks.watches.items found

-- the same as JSON
unfoldable pub json_of : Callers → Ask → Outcomes → List ℕ
json_of callers asks found = json_text callers asks found

-- the answers that came at each caller's steps, after the report's counts
abbrev pub caller_answers : List Tally → Caller → List ℕ
caller_answers outcomes caller = answers_text outcomes caller.who.0 (length caller.places.items)

abbrev pub callers_answers : List Tally → List Caller → List ℕ
callers_answers outcomes callers = flat_map (caller_answers outcomes) callers

unfoldable pub answers_of : Callers → Outcomes → List ℕ
answers_of callers found = counts_text found ++ callers_answers found.all.items callers.callers.items

-- the first order that leads to an outcome, as a scenario
unfoldable pub scenario_of : Callers → Tally → List ℕ
scenario_of callers outcome = order_of callers outcome.order.items

-- ---- what is reported

-- the report, and what came of what is asked
abbrev pub report_told : List ℕ → Callers → Ask → Outcomes → Option ℕ → Output
report_told name callers asks found place = record {
  printed = report_of callers asks found;
  said = asked_text name asks found place;
  status = asked_status asks found place;
}

abbrev pub json_told : List ℕ → Callers → Ask → Outcomes → Option ℕ → Output
json_told name callers asks found place = record {
  printed = json_of callers asks found;
  said = asked_text name asks found place;
  status = asked_status asks found place;
}

abbrev pub answers_told : List ℕ → Callers → Ask → Outcomes → Option ℕ → Output
answers_told name callers asks found place = record {
  printed = answers_of callers found;
  said = asked_text name asks found place;
  status = asked_status asks found place;
}

-- or the scenario of the outcome with this number alone, if there is one
abbrev pub scenario_told : List ℕ → ℕ → Callers → Ask → Outcomes → Option ℕ → Option Tally → Output
scenario_told name number callers asks found place None = refuses 2 (line_about name (codes "there is no outcome " ++ decimal number))
scenario_told name number callers asks found place (Some outcome) = record {
  printed = scenario_of callers outcome;
  said = asked_text name asks found place;
  status = asked_status asks found place;
}

-- or that of the first order to a moment as the question with this number looks for, if there is one
abbrev pub no_state : List ℕ → ℕ → Output
no_state name number = refuses 2 (line_about name (codes "no order leads to state " ++ decimal number))

-- the order to a first moment, if there is one
abbrev pub order_in : First → Option (List ℕ)
order_in Nowhere = None
order_in (After order) = Some order.items

-- of the question with this number, from 1
abbrev pub order_at : List First → ℕ → Option (List ℕ)
order_at firsts number = option_and_then order_in (slice_get firsts (number - 1))

abbrev pub state_told : List ℕ → ℕ → Callers → Ask → Outcomes → Option ℕ → Option (List ℕ) → Output
state_told name number callers asks found place None = no_state name number
state_told name number callers asks found place (Some order) = record {
  printed = order_of callers order;
  said = asked_text name asks found place;
  status = asked_status asks found place;
}

abbrev pub outcomes_told : View → List ℕ → Callers → Ask → Outcomes → Option ℕ → Output
outcomes_told Report name callers asks found place = report_told name callers asks found place
outcomes_told Json name callers asks found place = json_told name callers asks found place
outcomes_told Answers name callers asks found place = answers_told name callers asks found place
outcomes_told (Outcome number) name callers asks found place = scenario_told name number callers asks found place (slice_get found.all.items (number - 1))
outcomes_told (State number) name callers asks found place = state_told name number callers asks found place (order_at found.firsts.items number)

-- the outcomes of all orders, or that there are more of these, or of runs of one length, than a count can hold
abbrev pub TellsAll : List Handler → ℕ → View → List ℕ → Callers → Ask → Output → Type 0
TellsAll bank most one name callers asks output =
    ((found : Outcomes) × AreOutcomes callers bank asks.watches.items most found × (output ≡ outcomes_told one name callers asks found (first_against asks found.all.items)))
    ⊎ (CanNotTell callers bank Count × (output ≡ refuses 2 (line_about name (codes "more orders than can be counted"))))
