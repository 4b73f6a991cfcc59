-- The report of `lab orders` on the orders of callers.
use Rattle.std.specs.Prelude.{◌≡◌, ◌⊎◌, ℕ, false, MatchBool, List, codes, Option, Some, None, IsSomeAnd, option_and_then, option_map}
use Rattle.toml.specs.Parse.{parse_document}
use Rattle.evl_kernel.specs.state.States.{Handler}
pub use Rattle.lab_kinds.specs.Asking.{AreCallersIn, AsksOf}
use Rattle.lab_kinds.specs.Kinds.{kind_of}
use Rattle.lab_kinds.specs.declared.kinds.TextKind.{TextKind}
use Rattle.lab_lines.specs.Kinds.{IsOfCallers}
use Rattle.lab_scenario_orders.specs.Answers.{first_impossible, near_answer}
use Rattle.lab_scenario_orders.specs.AskFaults.{IsWhyOf}
use Rattle.lab_scenario_orders.specs.Asks.{AreOfCallers, Asks, ask_table}
use Rattle.lab_scenario_orders.specs.Callers.{IsRefused, IsSetUp}
use Rattle.lab_scenario_orders.specs.KeyLines.{IsPlaced, key_name}
use Rattle.lab_scenario_orders.specs.Leaving.{AreLeaving}
use Rattle.lab_scenario_orders.specs.Shares.{AreCallersOf}
use Rattle.lab_scenario_orders.specs.Splits.{ask_part}
use Rattle.lab_scenario_orders.specs.Watches.{AreWatches}
use Rattle.lab_scenario_orders.specs.declared.asks.Ask.{Ask}
use Rattle.lab_scenario_orders.specs.declared.asks.AskFault.{AskFault}
use Rattle.lab_scenario_orders.specs.declared.asks.Never.{Never}
use Rattle.lab_scenario_orders.specs.declared.callers.Callers.{Callers}
use Rattle.lab_scenario_orders.specs.declared.texts.TextFault.{TextFault}
use Rattle.lab_scenario_orders.specs.declared.texts.TextFault.TheVariants.{Limit, Mixed, Scenario}
use Rattle.lab_step_texts.specs.Kinds.{asks_steps}
pub use Rattle.lab_asks.specs.Asks.{ask_fault_line, impossible_text, line_words}
use Rattle.lab_asks.specs.Alone.{TellsAlone}
pub use Rattle.lab_asks.specs.OneOrder.{TellsOrder, order_of, text_name}
pub use Rattle.lab_asks.specs.Outcomes.{TellsAll, first_against, json_of, json_told, no_state, order_at, order_in, outcomes_told, report_of, report_told, scenario_of, scenario_told, state_told}
use Rattle.lab_streams.specs.Banks.{Refuses}
use Rattle.lab_streams.specs.Endings.{as_orders, kinded_words, line_about}
use Rattle.lab_streams.specs.Lines.{SaysUnread}
use Rattle.lab_streams.specs.Outputs.{OfRead, Output, WritesOverBank, refuses}
use Rattle.lab_streams.specs.Readings.{Reading}
use Rattle.lab_asks.specs.StepOrders.{TellsSteps}
use Rattle.lab_streams.specs.declared.words.Asked.{Asked}
use Rattle.lab_streams.specs.declared.words.Shown.{Shown}
use Rattle.lab_streams.specs.declared.words.Shown.TheVariants.{Report, Json, Outcome, State, Alone, Order, Answers}
use Rattle.lab_asks.specs.declared.orders.View.TheVariants as view

-- the outcomes of all orders, or one order alone
abbrev pub TellsOutcomes : List Handler → ℕ → Shown → List ℕ → Callers → Ask → Output → Type 0
TellsOutcomes bank most Report name callers asks output = TellsAll bank most view.Report name callers asks output
TellsOutcomes bank most Json name callers asks output = TellsAll bank most view.Json name callers asks output
TellsOutcomes bank most Answers name callers asks output = TellsAll bank most view.Answers name callers asks output
TellsOutcomes bank most (Outcome number) name callers asks output = TellsAll bank most (view.Outcome number) name callers asks output
TellsOutcomes bank most (State number) name callers asks output = TellsAll bank most (view.State number) name callers asks output
TellsOutcomes bank most Alone name callers asks output = TellsAlone bank most name callers asks output
TellsOutcomes bank most (Order text) name callers asks output = TellsOrder bank text.now name callers output

-- ---- what is asked

-- the same callers, of whom no step is made only as threads are picked
pub record IsUnpicked (read set : Callers) : Type 0 where
  pub board : set.board ≡ read.board
  pub limit : set.limit ≡ read.limit
  pub as_picked : set.as_picked ≡ false
  pub setup : set.setup ≡ read.setup
  pub steps : set.steps ≡ read.steps
  pub callers : set.callers ≡ read.callers

-- the callers, set to what is asked: where steps are made as threads are picked, callers leave at last
abbrev pub IsSetTo : Callers → Ask → Callers → Type 0
IsSetTo read asks set = MatchBool asks.as_picked (AreLeaving read set) (IsUnpicked read set)

-- the first answer of `never` that no step of its caller can have
unfoldable pub impossible_in : Callers → Ask → Option Never
impossible_in callers asks = first_impossible callers.steps.items asks.never.items

-- the outcomes of the callers that are set to what is asked, where each answer of `never` is possible
abbrev pub TellsPossible : List Handler → ℕ → Shown → List ℕ → Callers → Ask → Option Never → Output → Type 0
TellsPossible bank most one name callers asks None output = (set : Callers) × IsSetTo callers asks set × TellsOutcomes bank most one name set asks output
TellsPossible bank most one name callers asks (Some never) output = output ≡ refuses 2 (impossible_text name never (near_answer callers.steps.items never))

-- what is asked; or why it can't be read
abbrev pub TellsAsked : List Handler → ℕ → Shown → List ℕ → Callers → List ℕ → Output → Type 0
TellsAsked bank most one name callers text output =
    ((asks : Ask) × AsksOf text callers asks × TellsPossible bank most one name callers asks (impossible_in callers asks) output)
    ⊎ ((fault : AskFault) × IsWhyOf callers.callers.items callers.board text fault × IsPlaced text fault × IsSomeAnd (ask_fault_line name fault) (λ line. output ≡ refuses 2 line))

-- ---- the text

abbrev pub text_fault_words : TextKind → TextFault → Option (List ℕ)
text_fault_words kind (Scenario fault) = kinded_words kind fault
text_fault_words kind Mixed = Some (codes "a [[setup]] behind a [[step]]")
text_fault_words kind Limit = Some (codes "more steps than the limit")

abbrev pub TellsText : List Handler → ℕ → Shown → List ℕ → List ℕ → Output → Type 0
TellsText bank most one name text output =
    ((callers : Callers) × AreCallersIn text callers × TellsAsked bank most one name callers text output)
    ⊎ ((fault : TextFault) × IsRefused text fault × IsSomeAnd (text_fault_words (as_orders (kind_of text)) fault) (λ words. output ≡ refuses 2 (line_about name words)))

-- rule: For a text of callers `lab orders` prints the report of all orders of their atomic steps, or the lines of the
--   first order of one outcome or to one moment, and ends as for calls; or, with 2, it says why the text is refused,
--   what cannot be asked of steps, or that the orders, or runs of one length, are more than a count holds.
--   also: StepOrders.{TellsSteps, TellsAsked, TellsUnpicked, TellsFound, outcomes_told}
--   clauses: tell_either; tell_steps; tell_crew; go_through
-- a text of callers is gone through step by step, any other call by call
abbrev pub TellsEither : List Handler → ℕ → Shown → List ℕ → List ℕ → Output → Type 0
TellsEither bank most one name text output = MatchBool (asks_steps text) (TellsSteps most one name text output) (TellsText bank most one name text output)

-- a text of lines means its text of callers, if it can be read
abbrev pub TellsGiven : List Handler → ℕ → Shown → List ℕ → List ℕ → Output → Type 0
TellsGiven bank most one name text output =
    ((plain : List ℕ) × IsOfCallers text plain × TellsEither bank most one name plain output)
    ⊎ ((said : List ℕ) × SaysUnread name text said × (output ≡ refuses 2 said))

-- of a file, by what was read of it
abbrev pub TellsRead : List Handler → ℕ → Shown → List ℕ → Reading → Output → Type 0
TellsRead bank most one name = OfRead (TellsGiven bank most one name) name

-- ---- what the words ask

-- the bank's file is refused, or the orders of a file or of the input are reported over its callbacks
abbrev pub TellsOrders : Asked → Option (List ℕ) → Option (List ℕ) → Option (List ℕ) → Option (List ℕ) → Option (List ℕ) → ℕ → Type 0
TellsOrders asked known old new quiet spoken status =
    Refuses (option_map (λ file. file.now) asked.bank) old new quiet spoken status
    ⊎ WritesOverBank (λ bank. TellsRead bank asked.most asked.shown (text_name asked)) (option_map (λ file. file.now) asked.bank) (option_map (λ file. file.now) asked.file) known old new quiet spoken status
