-- The report of `lab orders` on the orders of callers' atomic steps.
use Rattle.std.specs.Prelude.{◌≡◌, ◌⊎◌, ◌+◌, ◌-◌, ◌^◌, min, ℕ, Bool, ◌||◌, MatchBool, if◌then◌else◌, length, nat_lt, List, [], ◌∷◌, ◌++◌, codes, decimal, position, slice_get, string_bytes, Option, Some, None, IsSomeAnd, is_some, option_and_then, Result, Ok, Err}
use Rattle.toml.specs.Parse.{parse_document}
use Rattle.lab_orders.specs.declared.levels.OrdersError.TheVariants.{Count}
use Rattle.lab_orders.specs.declared.tallies.Tally.{Tally}
use Rattle.lab_scenario_orders.specs.Asks.{Asks, ask_table, is_against}
use Rattle.lab_scenario_orders.specs.KeyLines.{IsPlaced}
use Rattle.lab_scenario_orders.specs.Splits.{ask_part}
use Rattle.lab_scenario_orders.specs.Verdicts.{asks_anything, is_count_against, state_against}
use Rattle.lab_scenario_orders.specs.declared.asks.Ask.{Ask}
use Rattle.lab_scenario_orders.specs.declared.asks.AskFault.{AskFault}
use Rattle.lab_scenario_orders.specs.declared.asks.Never.{Never}
use Rattle.lab_step_orders.specs.Outcomes.{AreOutcomes, CanNotTell}
use Rattle.lab_orders.specs.Answers.{answers_text}
use Rattle.lab_step_orders.specs.Reports.{counts_text, report_text}
use Rattle.lab_step_orders.specs.declared.crews.Crew.{Crew}
use Rattle.lab_step_orders.specs.declared.crews.CrewCaller.{CrewCaller}
use Rattle.lab_step_orders.specs.declared.outcomes.StepOutcomes.{StepOutcomes}
use Rattle.lab_step_texts.specs.Lines.{order_lines}
use Rattle.lab_step_texts.specs.Answers.{first_impossible}
use Rattle.lab_step_texts.specs.Asks.{IsAskOf, IsUnaskedFor}
use Rattle.lab_step_texts.specs.Crews.{IsReadAs, IsRefused}
use Rattle.lab_step_texts.specs.Faults.{step_words, unread_words}
use Rattle.lab_step_texts.specs.Questions.{unasked_part}
use Rattle.lab_step_texts.specs.declared.faults.StepsFault.{StepsFault}
use Rattle.lab_step_texts.specs.declared.faults.StepsFault.TheVariants.{Text, Mixed, Mutex, Limit, Step, WhatIf, Lasts, Question, Facts, Lacking}
use Rattle.lab_streams.specs.Endings.{fault_words, line_about}
use Rattle.lab_asks.specs.Asks.{ask_fault_line, impossible_text}
use Rattle.lab_asks.specs.Outcomes.{order_at}
use Rattle.lab_streams.specs.Outputs.{Output, refuses}
use Rattle.lab_asks.specs.Verdicts.{holds_text, unanswered_text}
use Rattle.lab_asks.specs.declared.step_found.StepView.{StepView}
use Rattle.lab_asks.specs.declared.step_found.StepView.TheVariants as view
use Rattle.lab_streams.specs.declared.words.Shown.{Shown}
use Rattle.lab_streams.specs.declared.words.Shown.TheVariants.{Report, Json, Outcome, State, Alone, Order, Answers}

-- ---- the outcomes

-- the place of the first outcome that is against what is asked
unfoldable pub first_against : Ask → List Tally → Option ℕ
first_against asks outcomes = position (λ outcome. is_against asks (string_bytes outcome.told)) outcomes

unfoldable pub report_of : Crew → StepOutcomes → List ℕ
report_of crew found = report_text crew found

unfoldable pub lines_of : Crew → List ℕ → List ℕ
lines_of crew order = order_lines crew order

-- the answers that came to each call of these callers, the first of whom has this number
abbrev pub callers_answers : List Tally → ℕ → List CrewCaller → List ℕ
callers_answers outcomes number [] = []
callers_answers outcomes number (caller ∷ rest) = answers_text outcomes number (length caller.calls.items) ++ callers_answers outcomes (number + 1) rest

-- after the report's counts
unfoldable pub answers_of : Crew → StepOutcomes → List ℕ
answers_of crew found = counts_text found ++ callers_answers found.all.items 0 crew.callers.items

-- ---- what came of what is asked

-- no outcome is against what is asked: where nothing is asked, nothing is said
abbrev pub none_text : List ℕ → Ask → StepOutcomes → List ℕ
none_text name asks found = if asks_anything asks then (if found.whole then holds_text name asks found.count else unanswered_text name found.steps) else codes ""

abbrev pub none_status : Ask → StepOutcomes → ℕ
none_status asks found = if asks_anything asks then (if found.whole then 0 else 5) else 0

-- or there are other outcomes than so many
abbrev pub wanted_text : List ℕ → Ask → StepOutcomes → Option ℕ → List ℕ
wanted_text name asks found None = none_text name asks found
wanted_text name asks found (Some wanted) =
    if is_count_against wanted found.whole (length found.all.items)
    then codes "lab: " ++ (name ++ (codes ": outcomes: " ++ (decimal (length found.all.items) ++ (codes ", and not " ++ (decimal wanted ++ codes "\n")))))
    else none_text name asks found

abbrev pub wanted_status : Ask → StepOutcomes → Option ℕ → ℕ
wanted_status asks found None = none_status asks found
wanted_status asks found (Some wanted) = if is_count_against wanted found.whole (length found.all.items) then 1 else none_status asks found

-- or what was found of the question about moments with this number is against it
abbrev pub first_state : Ask → StepOutcomes → Option ℕ
first_state asks found = state_against found.firsts.items found.whole 0 asks.watches.items

abbrev pub state_text : List ℕ → Ask → StepOutcomes → Option ℕ → List ℕ
state_text name asks found None = wanted_text name asks found asks.outcomes
state_text name asks found (Some place) = codes "lab: " ++ (name ++ (codes ": state " ++ (decimal (min (place + 1) (2 ^ 64 - 1)) ++ codes " is against what is asked\n")))

abbrev pub state_status : Ask → StepOutcomes → Option ℕ → ℕ
state_status asks found None = wanted_status asks found asks.outcomes
state_status asks found (Some place) = 1

abbrev pub states_text : List ℕ → Ask → StepOutcomes → List ℕ
states_text name asks found = state_text name asks found (first_state asks found)

abbrev pub states_status : Ask → StepOutcomes → ℕ
states_status asks found = state_status asks found (first_state asks found)

-- or the outcome with this number is against it, from 1
abbrev pub asked_text : List ℕ → Ask → StepOutcomes → Option ℕ → List ℕ
asked_text name asks found None = states_text name asks found
asked_text name asks found (Some place) = codes "lab: " ++ (name ++ (codes ": outcome " ++ (decimal (min (place + 1) (2 ^ 64 - 1)) ++ codes " is against what is asked\n")))

abbrev pub asked_status : Ask → StepOutcomes → Option ℕ → ℕ
asked_status asks found None = states_status asks found
asked_status asks found (Some place) = 1

-- this is printed, and what came of what is asked is said
abbrev pub verdict : List ℕ → List ℕ → Ask → StepOutcomes → Output
verdict printed name asks found =
    let place = first_against asks found.all.items in
    record { printed = printed; said = asked_text name asks found place; status = asked_status asks found place }

-- the lines alone of the first order of the outcome with this number, if there is one
abbrev pub one_told : List ℕ → ℕ → Crew → Ask → StepOutcomes → Option Tally → Output
one_told name number crew asks found None = refuses 2 (line_about name (codes "there is no outcome " ++ decimal number))
one_told name number crew asks found (Some outcome) = verdict (lines_of crew outcome.order.items) name asks found

-- of the first order to a moment as the question with this number looks for, if one leads there
abbrev pub state_told : List ℕ → ℕ → Crew → Ask → StepOutcomes → Option (List ℕ) → Output
state_told name number crew asks found None = refuses 2 (line_about name (codes "no order leads to state " ++ decimal number))
state_told name number crew asks found (Some order) = verdict (lines_of crew order) name asks found

-- the report, the answers, or one order alone
abbrev pub outcomes_told : StepView → List ℕ → Crew → Ask → StepOutcomes → Output
outcomes_told view.Report name crew asks found = verdict (report_of crew found) name asks found
outcomes_told view.Answers name crew asks found = verdict (answers_of crew found) name asks found
outcomes_told (view.Outcome number) name crew asks found = one_told name number crew asks found (slice_get found.all.items (number - 1))
outcomes_told (view.State number) name crew asks found = state_told name number crew asks found (order_at found.firsts.items number)

-- the outcomes of all orders, or that there are more of these, or of runs of one length, than a count can hold
abbrev pub TellsFound : ℕ → StepView → List ℕ → Crew → Ask → Output → Type 0
TellsFound most one name crew asks output =
    ((found : StepOutcomes) × AreOutcomes crew most found × (output ≡ outcomes_told one name crew asks found))
    ⊎ (CanNotTell crew Count × (output ≡ refuses 2 (line_about name (codes "more orders than can be counted"))))

-- what is printed of orders of steps, or why they can't be reported so
abbrev pub told_for : Shown → Result StepView (List ℕ)
told_for Report = Ok view.Report
told_for (Outcome number) = Ok (view.Outcome number)
told_for (State number) = Ok (view.State number)
told_for Answers = Ok view.Answers
told_for Json = Err (codes "--json is for orders of whole calls")
told_for Alone = Err (codes "--ask is for orders of whole calls")
told_for (Order text) = Err (codes "--order is for orders of whole calls")

abbrev pub TellsGone : ℕ → List ℕ → Crew → Ask → Result StepView (List ℕ) → Output → Type 0
TellsGone most name crew asks (Ok one) output = TellsFound most one name crew asks output
TellsGone most name crew asks (Err words) output = output ≡ refuses 2 (line_about name words)

-- ---- what is asked

-- where each answer of `never` is possible
abbrev pub TellsPossible : ℕ → Shown → List ℕ → Crew → Ask → Option Never → Output → Type 0
TellsPossible most one name crew asks None output = TellsGone most name crew asks (told_for one) output
TellsPossible most one name crew asks (Some never) output = output ≡ refuses 2 (impossible_text name never None)

unfoldable pub impossible_in : Crew → Ask → Option Never
impossible_in crew asks = first_impossible (is_some crew.what_if) crew.callers.items asks.never.items

-- what can't be asked of orders of steps: threads aren't picked
abbrev pub asks_whole : Ask → Bool
asks_whole asks = asks.as_picked

abbrev pub TellsUnpicked : ℕ → Shown → List ℕ → Crew → Ask → Bool → Output → Type 0
TellsUnpicked most one name crew asks whole output =
    MatchBool whole (output ≡ refuses 2 (line_about name (codes "as_picked is for orders of whole calls"))) (TellsPossible most one name crew asks (impossible_in crew asks) output)

-- what is asked; or why it can't be read
abbrev pub TellsAsked : ℕ → Shown → List ℕ → Crew → List ℕ → Output → Type 0
TellsAsked most one name crew text output =
    ((asks : Ask) × IsAskOf text crew asks × TellsUnpicked most one name crew asks (asks_whole asks) output)
    ⊎ ((fault : AskFault) × IsUnaskedFor text fault × IsPlaced (unasked_part text) fault × IsSomeAnd (ask_fault_line name fault) (λ line. output ≡ refuses 2 line))

-- ---- the text

-- these words about a line
abbrev pub line_words : ℕ → List ℕ → List ℕ
line_words line words = codes "line " ++ (decimal line ++ (codes ": " ++ words))

-- why it isn't gone through
abbrev pub steps_fault_words : StepsFault → Option (List ℕ)
steps_fault_words (Text fault) = fault_words fault
steps_fault_words Mixed = Some (codes "a [[setup]] behind a [[step]]")
steps_fault_words Mutex = Some (codes "bad board: a mutex that nests or has a ceiling goes through the core's lock")
steps_fault_words Limit = Some (codes "more steps than the limit")
steps_fault_words (WhatIf line) = Some (line_words line (codes "[what_if] has one line, with true: offer_drops_mark, claim_sets_no_mark, unlock_skips_kernel or leave_keeps_mark"))
steps_fault_words (Lasts line) = Some (line_words line (codes "lasts stands in a [[step]], once"))
steps_fault_words (Question line) = Some (line_words line (codes "facts are asked on one line, as never_state = [\"T1 has the core and mutex 0 claimed\"]"))
steps_fault_words (Facts line unread) = Some (line_words line (unread_words unread))
steps_fault_words (Lacking line) = Some (line_words line (codes "it asks of a thread, a stax or a mutex that the board lacks"))
steps_fault_words (Step number fault) = Some (codes "bad step " ++ (decimal number ++ (codes ": " ++ step_words fault)))

abbrev pub TellsSteps : ℕ → Shown → List ℕ → List ℕ → Output → Type 0
TellsSteps most one name text output =
    ((crew : Crew) × IsReadAs text crew × TellsAsked most one name crew text output)
    ⊎ ((fault : StepsFault) × IsRefused text fault × IsSomeAnd (steps_fault_words fault) (λ words. output ≡ refuses 2 (line_about name words)))
