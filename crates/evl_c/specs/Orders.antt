-- C's view of the orders of a text's callers: what `lab orders` prints.
use Rattle.std.specs.Prelude.{◌≡◌, ◌⊎◌, ◌+◌, ◌-◌, ◌^◌, min, nat_eq, ℕ, ℤ, pos, negsuc, Bool, true, false, MatchBool, if◌then◌else◌, List, [], ◌++◌, codes, decimal, length, position, slice_get, string_bytes, Option, Some, None, IsSomeAnd, option_and_then, unwrap_or}
use Rattle.toml.specs.Parse.{parse_document}
use Rattle.evl_kernel.specs.state.States.{Handler}
use Rattle.evl_scenario.specs.declared.faults.Fault.{Fault}
use Rattle.evl_scenario.specs.declared.faults.Fault.TheVariants as fault
use Rattle.lab_kinds.specs.Asking.{impossible_words}
use Rattle.lab_lines.specs.Kinds.{IsOfCallers}
use Rattle.lab_orders.specs.declared.levels.OrdersError.TheVariants.{Count}
use Rattle.lab_orders.specs.declared.tallies.Tally.{Tally}
use Rattle.lab_scenario_orders.specs.Answers.{first_impossible, near_answer}
use Rattle.lab_scenario_orders.specs.AskFaults.{IsWhyOf}
use Rattle.lab_scenario_orders.specs.Asks.{AreOfCallers, Asks, ask_table, is_against}
use Rattle.lab_scenario_orders.specs.Callers.{IsRefused, IsSetUp}
use Rattle.lab_scenario_orders.specs.KeyLines.{IsPlaced, key_name}
use Rattle.lab_scenario_orders.specs.Leaving.{AreLeaving}
use Rattle.lab_scenario_orders.specs.Outcomes.{AreOutcomes, CanNotTell}
use Rattle.lab_scenario_orders.specs.Reports.{report_text}
use Rattle.lab_scenario_orders.specs.Scenarios.{order_scenario}
use Rattle.lab_scenario_orders.specs.Shares.{AreCallersOf}
use Rattle.lab_scenario_orders.specs.Splits.{ask_part}
use Rattle.lab_scenario_orders.specs.Watches.{AreWatches}
use Rattle.lab_scenario_orders.specs.declared.asks.Ask.{Ask}
use Rattle.lab_scenario_orders.specs.declared.asks.AskFault.{AskFault}
use Rattle.lab_scenario_orders.specs.declared.asks.AskFault.TheVariants as ask
use Rattle.lab_scenario_orders.specs.declared.asks.AskKey.{AskKey}
use Rattle.lab_scenario_orders.specs.declared.asks.AskKey.TheVariants as key
use Rattle.lab_scenario_orders.specs.declared.asks.FactFault.{FactFault}
use Rattle.lab_scenario_orders.specs.declared.asks.FactFault.TheVariants as why
use Rattle.lab_scenario_orders.specs.declared.asks.Never.{Never}
use Rattle.lab_scenario_orders.specs.declared.callers.Callers.{Callers}
use Rattle.lab_scenario_orders.specs.declared.facts.Part.{Part}
use Rattle.lab_scenario_orders.specs.declared.facts.Part.TheVariants as part
use Rattle.lab_scenario_orders.specs.declared.outcomes.Outcomes.{Outcomes}
use Rattle.lab_scenario_orders.specs.declared.texts.TextFault.{TextFault}
use Rattle.lab_scenario_orders.specs.declared.texts.TextFault.TheVariants.{Limit, Mixed, Scenario}
use Rattle.evl_c.specs.Given.{IsUnreadAs}
use Rattle.evl_c.specs.Verdicts.{first_state, verdict}
use Rattle.evl_c.specs.Windows.{window}
use Rattle.evl_c.specs.declared.orders.Ordered.{Ordered}
use Rattle.evl_c.specs.declared.orders.Told.{Told}

-- ---- what C learns

-- a text, what C learns beside it, and the status
pub record Answer : Type 0 where
  pub text : List ℕ
  pub ordered : Ordered
  pub status : ℕ

abbrev pub answer_in : Told → Answer
answer_in told = record { text = string_bytes told.text; ordered = told.ordered; status = told.status }

-- of what isn't gone through
abbrev pub nothing : Ordered
nothing = record {
  length = 0;
  total = 0;
  outcomes = 0;
  against = 0;
  state = 0;
  steps = 0;
  never = 0;
  states = 0;
  step = 0;
  wanted = pos 0;
  verdict = 0;
  always_ends = false;
  ends_waits = false;
  as_picked = false;
  is_whole = false;
}

-- a refusal: its status, the step at fault, and why, in words
abbrev pub refuses : ℕ → ℕ → List ℕ → Answer
refuses status step words = record { text = words; ordered = record nothing { length = length words; step = step }; status = status }

-- of a fault of a scenario; of want of memory there is none
abbrev pub fault_answer : Fault → Option Answer
fault_answer fault.Text = Some (refuses 1 0 [])
fault_answer fault.Board = Some (refuses 2 0 [])
fault_answer (fault.Step number) = Some (refuses 3 number [])
fault_answer fault.Memory = None
fault_answer fault.Write = None

-- how many moments a number of steps may lead to
abbrev pub most_given : ℕ → ℕ
most_given most = if nat_eq most 0 then 100000 else most

-- ---- outcomes

-- the place of the first outcome that is against what is asked
unfoldable pub first_against : Ask → List Tally → Option ℕ
first_against asks outcomes = position (λ outcome. is_against asks (string_bytes outcome.told)) outcomes

abbrev pub number_of : Option ℕ → ℕ
number_of None = 0
number_of (Some place) = min (place + 1) (2 ^ 64 - 1)

-- how many outcomes there are to be, -1 where that isn't asked
abbrev pub wanted_of : Option ℕ → ℤ
wanted_of None = negsuc 0
wanted_of (Some wanted) = pos wanted

-- the numbers of outcomes, beside a text of this length
abbrev pub numbers_of : Ask → Outcomes → Option ℕ → ℕ → Ordered
numbers_of asks found place count = record {
  length = count;
  total = min found.count (2 ^ 64 - 1);
  outcomes = length found.all.items;
  against = number_of place;
  state = number_of (first_state asks found);
  steps = found.steps;
  never = length asks.never.items;
  states = length asks.watches.items;
  step = 0;
  wanted = wanted_of asks.outcomes;
  verdict = verdict asks found place;
  always_ends = asks.always_ends;
  ends_waits = asks.ends_waits;
  as_picked = asks.as_picked;
  is_whole = found.whole;
}

abbrev pub gone_answer : Ask → Outcomes → Option ℕ → List ℕ → Answer
gone_answer asks found place text = record { text = text; ordered = numbers_of asks found place (length text); status = 0 }

-- the scenario of an outcome, if there is one
abbrev pub scenario_answer : Callers → Ask → Outcomes → Option ℕ → Option Tally → Answer
scenario_answer callers asks found place None = record { text = []; ordered = numbers_of asks found place 0; status = 7 }
scenario_answer callers asks found place (Some outcome) = gone_answer asks found place (order_scenario callers outcome.order.items)

-- the report, or the scenario of the outcome with this number, from 1
abbrev pub outcomes_answer : ℕ → Callers → Ask → Outcomes → Option ℕ → Answer
outcomes_answer one callers asks found place =
    if nat_eq one 0 then gone_answer asks found place (report_text callers asks.watches.items found)
    else scenario_answer callers asks found place (slice_get found.all.items (one - 1))

-- ---- what is asked

-- the tables `[ask]` of a text ask this of its callers
pub record AsksOf (text : List ℕ) (callers : Callers) (asks : Ask) : Type 0 where
  pub asked : IsSomeAnd (option_and_then ask_table (parse_document (ask_part text))) (λ table. Asks table asks)
  pub who : AreOfCallers callers.callers.items asks.never.items
  pub watches : AreWatches callers.board asks.watches.items

-- the same callers, of whom no step is made only as threads are picked
pub record IsUnpicked (read set : Callers) : Type 0 where
  pub board : set.board ≡ read.board
  pub limit : set.limit ≡ read.limit
  pub as_picked : set.as_picked ≡ false
  pub setup : set.setup ≡ read.setup
  pub steps : set.steps ≡ read.steps
  pub callers : set.callers ≡ read.callers

-- the callers, set to what is asked: where steps are made as threads are picked, callers leave at last
abbrev pub IsSetTo : Callers → Ask → Callers → Type 0
IsSetTo read asks set = MatchBool asks.as_picked (AreLeaving read set) (IsUnpicked read set)

abbrev pub key_words : AskKey → List ℕ
key_words key.Never = codes "never is a list of texts"
key_words key.AlwaysEnds = codes "always_ends is true or false"
key_words key.EndsWaits = codes "ends_waits is true or false"
key_words key.AsPicked = codes "as_picked is true or false"
key_words key.NeverState = codes "never_state is a list of texts"
key_words key.Sometimes = codes "sometimes is a list of texts"
key_words key.Always = codes "always is a list of texts"
key_words key.Outcomes = codes "outcomes is a number from 0 to 65535"
key_words key.Other = codes "[ask] has never, always_ends, ends_waits, as_picked, never_state, sometimes, always and outcomes"

-- what a board lacks
abbrev pub part_words : Part → List ℕ
part_words part.Thread = codes "a thread"
part_words part.Sem = codes "a semaphore"
part_words part.Flags = codes "a flag group"
part_words part.Xbuf = codes "a cross-buffer"
part_words part.Mutex = codes "a mutex"
part_words part.Line = codes "a line"

-- why a text isn't facts of a board
abbrev pub fact_words : FactFault → List ℕ
fact_words (why.Unread None) = codes "isn't facts, as \"T2 picked and T3 waits for mutex 0\""
fact_words (why.Unread (Some word)) = codes "isn't facts, as \"T2 picked and T3 waits for mutex 0\"; did you mean \"" ++ (word.now ++ codes "\"?")
fact_words (why.Lacking part) = codes "names " ++ (part_words part ++ codes " that the board lacks")

-- a key's name, where it has one
abbrev pub key_text : AskKey → List ℕ
key_text key = unwrap_or (key_name key) (codes "[ask]")

abbrev pub line_words : Option ℕ → List ℕ
line_words None = codes ""
line_words (Some line) = codes "line " ++ (decimal line ++ codes ": ")

-- why it can't be read what is asked; of want of memory there are no words
abbrev pub ask_words : AskFault → Option (List ℕ)
ask_words ask.Table = Some (codes "[ask] isn't one table of TOML")
ask_words (ask.Key key None) = Some (key_words key)
ask_words (ask.Key key (Some line)) = Some (codes "line " ++ (decimal line ++ (codes ": " ++ key_words key)))
ask_words (ask.Never number) = Some (codes "[ask]: text " ++ (decimal number ++ codes " of never isn't a caller and one answer, as \"T1 -> timed out\""))
ask_words (ask.Facts key number why line) =
    Some (line_words line ++ (codes "text " ++ (decimal number ++ (codes " of " ++ (key_text key ++ (codes " " ++ fact_words why))))))
ask_words ask.Memory = None

-- the first answer of `never` that no step of its caller can have
unfoldable pub impossible_in : Callers → Ask → Option Never
impossible_in callers asks = first_impossible callers.steps.items asks.never.items

-- ---- the text

-- the callers of a text
pub record AreCallersIn (text : List ℕ) (callers : Callers) : Type 0 where
  pub set_up : IsSetUp text callers
  pub each : AreCallersOf callers.steps.items callers.callers.items

abbrev pub text_answer : TextFault → Option Answer
text_answer (Scenario fault) = fault_answer fault
text_answer Mixed = Some (refuses 3 0 (codes "a [[setup]] behind a [[step]]"))
text_answer Limit = Some (refuses 2 0 (codes "more steps than the limit"))

module _ (bank : List Handler) (most one : ℕ) where
  -- the outcomes of all orders, or that there are more of these, or of runs of one length, than a count can hold
  abbrev pub TellsOutcomes : Callers → Ask → Answer → Type 0
  TellsOutcomes callers asks answer =
      ((found : Outcomes) × AreOutcomes callers bank asks.watches.items most found × (answer ≡ outcomes_answer one callers asks found (first_against asks found.all.items)))
      ⊎ (CanNotTell callers bank Count × (answer ≡ refuses 8 0 []))

  -- of the callers that are set to what is asked, where each answer of `never` is possible
  abbrev pub TellsPossible : Callers → Ask → Option Never → Answer → Type 0
  TellsPossible callers asks None answer = (set : Callers) × IsSetTo callers asks set × TellsOutcomes set asks answer
  TellsPossible callers asks (Some never) answer = answer ≡ refuses 10 0 (impossible_words never (near_answer callers.steps.items never))

  -- what is asked; or why it can't be read
  abbrev pub TellsAsked : Callers → List ℕ → Answer → Type 0
  TellsAsked callers text answer =
      ((asks : Ask) × AsksOf text callers asks × TellsPossible callers asks (impossible_in callers asks) answer)
      ⊎ ((e : AskFault) × IsWhyOf callers.callers.items callers.board text e × IsPlaced text e × IsSomeAnd (ask_words e) (λ words. answer ≡ refuses 10 0 words))

  -- the callers of a text, or why it is refused
  abbrev pub TellsText : List ℕ → Answer → Type 0
  TellsText text answer =
      ((callers : Callers) × AreCallersIn text callers × TellsAsked callers text answer)
      ⊎ ((e : TextFault) × IsRefused text e × IsSomeAnd (text_answer e) (λ a. answer ≡ a))

  -- a text of lines is taken for its text of callers, if it can be read
  abbrev pub TellsGiven : List ℕ → Answer → Type 0
  TellsGiven text answer =
      ((plain : List ℕ) × IsOfCallers text plain × TellsText plain answer) ⊎ ((e : Fault) × IsUnreadAs text e × IsSomeAnd (fault_answer e) (λ a. answer ≡ a))

  -- rule: C's buffer has the report of all orders that `lab orders` has, or the scenario of one outcome, and C gets
  --   their numbers, the first outcome against `[ask]`, what that asks, and whether orders were cut off. Else the
  --   answer says why: the text's fault and step; in words what cannot be asked (why it cannot be read, with its line);
  --   that there is no such outcome, with the numbers; that the orders, or runs of one length, are more than a count
  --   holds.
  --   also: Orders.{TellsGiven, TellsPossible, outcomes_answer}
  --   clauses: evlsim_c_orders
  -- C gets this, or memory ran out, and C gets the status alone
  abbrev pub TellsOrders : List ℕ → ℕ → List ℕ → List ℕ → Ordered → ℕ → Type 0
  TellsOrders text start old new ordered status =
      ((answer : Answer) × TellsGiven text answer × (new ≡ window answer.text start old) × (ordered ≡ answer.ordered) × (status ≡ answer.status))
      ⊎ ((new ≡ old) × (ordered ≡ nothing) × (status ≡ 4))
