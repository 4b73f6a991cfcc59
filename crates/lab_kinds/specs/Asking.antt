-- Whether the orders of a text can be asked for, where nothing else is wrong with it.
use Rattle.std.specs.Prelude.{◌≡◌, ◌⊎◌, ◌||◌, ℕ, Bool, if◌then◌else◌, List, [], ◌∷◌, ◌++◌, codes, decimal, string_bytes, Option, Some, None, IsSomeAnd, option_and_then, unwrap_or}
use Rattle.std.specs.Str.{bytes_eq}
use Rattle.toml.specs.Parse.{parse_document}
use Rattle.evl_scenario.specs.declared.faults.Fault.TheVariants as scenario
use Rattle.evl_scenario.specs.declared.steps.Step.{Step}
use Rattle.lab_faults.specs.Told.{Told}
use Rattle.lab_scenario_orders.specs.Answers.{first_impossible, near_answer}
use Rattle.lab_scenario_orders.specs.AskFaults.{IsWhyOf}
use Rattle.lab_scenario_orders.specs.Asks.{AreOfCallers, Asks, ask_table, begins}
use Rattle.lab_scenario_orders.specs.Callers.{IsRefused, IsSetUp}
use Rattle.lab_scenario_orders.specs.KeyLines.{IsPlaced, key_name, line_set}
use Rattle.lab_scenario_orders.specs.Shares.{AreCallersOf}
use Rattle.lab_scenario_orders.specs.Splits.{ask_part}
use Rattle.lab_scenario_orders.specs.Watches.{AreWatches}
use Rattle.lab_scenario_orders.specs.declared.asks.Ask.{Ask}
use Rattle.lab_scenario_orders.specs.declared.asks.AskFault.{AskFault}
use Rattle.lab_scenario_orders.specs.declared.asks.AskFault.TheVariants as ask
use Rattle.lab_scenario_orders.specs.declared.asks.AskKey.{AskKey}
use Rattle.lab_scenario_orders.specs.declared.asks.AskKey.TheVariants as key
use Rattle.lab_scenario_orders.specs.declared.asks.FactFault.{FactFault}
use Rattle.lab_scenario_orders.specs.declared.asks.FactFault.TheVariants as why
use Rattle.lab_scenario_orders.specs.declared.asks.Never.{Never}
use Rattle.lab_scenario_orders.specs.declared.callers.Callers.{Callers}
use Rattle.lab_scenario_orders.specs.declared.facts.Part.{Part}
use Rattle.lab_scenario_orders.specs.declared.facts.Part.TheVariants as part
use Rattle.lab_scenario_orders.specs.declared.texts.TextFault.{TextFault}
use Rattle.lab_scenario_orders.specs.declared.texts.TextFault.TheVariants as text

-- ---- what is said

-- of a key that can't be asked
abbrev pub key_words : AskKey → List ℕ
key_words key.Never = codes "never is a list of texts"
key_words key.AlwaysEnds = codes "always_ends is true or false"
key_words key.EndsWaits = codes "ends_waits is true or false"
key_words key.AsPicked = codes "as_picked is true or false"
key_words key.NeverState = codes "never_state is a list of texts"
key_words key.Sometimes = codes "sometimes is a list of texts"
key_words key.Always = codes "always is a list of texts"
key_words key.Outcomes = codes "outcomes is a number from 0 to 65535"
key_words key.Other = codes "[ask] has never, always_ends, ends_waits, as_picked, never_state, sometimes, always and outcomes"

-- what a board lacks
abbrev pub part_words : Part → List ℕ
part_words part.Thread = codes "a thread"
part_words part.Sem = codes "a semaphore"
part_words part.Flags = codes "a flag group"
part_words part.Xbuf = codes "a cross-buffer"
part_words part.Mutex = codes "a mutex"
part_words part.Line = codes "a line"

-- why a text isn't facts of a board
abbrev pub fact_words : FactFault → List ℕ
fact_words (why.Unread None) = codes "isn't facts, as \"T2 picked and T3 waits for mutex 0\""
fact_words (why.Unread (Some word)) = codes "isn't facts, as \"T2 picked and T3 waits for mutex 0\"; did you mean \"" ++ (word.now ++ codes "\"?")
fact_words (why.Lacking part) = codes "names " ++ (part_words part ++ codes " that the board lacks")

-- a key's name, where it has one
abbrev pub key_text : AskKey → List ℕ
key_text key = unwrap_or (key_name key) (codes "[ask]")

-- why it can't be read what is asked; want of memory is said otherwise
abbrev pub ask_words : AskFault → Option (List ℕ)
ask_words ask.Table = Some (codes "[ask] isn't one table of TOML")
ask_words (ask.Key key line) = Some (key_words key)
ask_words (ask.Never number) = Some (codes "[ask]: text " ++ (decimal number ++ codes " of never isn't a caller and one answer, as \"T1 -> timed out\""))
ask_words (ask.Facts key number why line) = Some (codes "text " ++ (decimal number ++ (codes " of " ++ (key_text key ++ (codes " " ++ fact_words why)))))
ask_words ask.Memory = None

-- the line of a key
abbrev pub ask_line : AskFault → Option ℕ
ask_line (ask.Key key line) = line
ask_line (ask.Facts key number why line) = line
ask_line _ = None

-- how a wait ends is answered so
abbrev pub ends_wait : List ℕ → Bool
ends_wait answer =
    ((bytes_eq answer (codes "done") || bytes_eq answer (codes "timed out")) || begins (codes "bits ") answer) || begins (codes "bytes ") answer

-- a user who asks for that may lack a step that ends its wait
abbrev pub finish_text : List ℕ → List ℕ
finish_text answer = if ends_wait answer then codes "; how a wait ends is the answer of its finish" else []

-- an answer that no step of its caller can have, with what may be meant
abbrev pub impossible_words : Never → Option (List ℕ) → List ℕ
impossible_words never None =
    codes "[ask]: " ++ (string_bytes never.who ++ (codes " is never answered \"" ++ (string_bytes never.answer ++ (codes "\"" ++ finish_text (string_bytes never.answer)))))
impossible_words never (Some word) =
    codes "[ask]: " ++ (string_bytes never.who ++ (codes " is never answered \"" ++ (string_bytes never.answer
    ++ (codes "\"; did you mean \"" ++ (word ++ codes "\"?")))))

-- of facts that are no list on the line of their key
abbrev pub open_text : List ℕ
open_text = codes "facts are asked on one line, as never_state = [\"T1 has the core and mutex 0 claimed\"]"

-- why a text isn't one of callers
abbrev pub refusal_words : TextFault → Option (List ℕ)
refusal_words (text.Scenario scenario.Memory) = None
refusal_words (text.Scenario _) = Some (codes "a scenario is wanted, in which [[setup]] stands for a step that comes first")
refusal_words text.Mixed = Some (codes "a [[setup]] behind a [[step]]")
refusal_words text.Limit = Some (codes "more steps than the limit")

-- ---- the fault

-- it is reported at a line, or at the first one
abbrev pub told_on : Option ℕ → List ℕ → Told
told_on line words = record { fault = scenario.Board; place = record { line = unwrap_or line 1; column = 1 }; words = words }

-- the callers of a text
pub record AreCallersIn (text : List ℕ) (callers : Callers) : Type 0 where
  pub set_up : IsSetUp text callers
  pub each : AreCallersOf callers.steps.items callers.callers.items

-- the tables `[ask]` of a text ask this of its callers
pub record AsksOf (text : List ℕ) (callers : Callers) (asks : Ask) : Type 0 where
  pub asked : IsSomeAnd (option_and_then ask_table (parse_document (ask_part text))) (λ table. Asks table asks)
  pub who : AreOfCallers callers.callers.items asks.never.items
  pub watches : AreWatches callers.board asks.watches.items

-- an answer of `never` that no step of its caller can have
abbrev pub impossible_faults : List ℕ → List Step → Option Never → List Told
impossible_faults text steps None = []
impossible_faults text steps (Some never) = told_on (line_set (Some (codes "never")) text) (impossible_words never (near_answer steps never)) ∷ []

-- what is asked can be read, with answers that may be; or why it can't
abbrev pub AskTells : List ℕ → Callers → List Told → Type 0
AskTells text callers faults =
    ((asks : Ask) × AsksOf text callers asks × (faults ≡ impossible_faults text callers.steps.items (first_impossible callers.steps.items asks.never.items)))
    ⊎ ((fault : AskFault) × IsWhyOf callers.callers.items callers.board text fault × IsPlaced text fault × IsSomeAnd (ask_words fault) (λ words. faults ≡ told_on (ask_line fault) words ∷ []))

-- of a text: where there is none, its orders can be asked for
abbrev pub AskedLast : List ℕ → List Told → Type 0
AskedLast text faults =
    ((callers : Callers) × AreCallersIn text callers × AskTells text callers faults)
    ⊎ ((fault : TextFault) × IsRefused text fault × IsSomeAnd (refusal_words fault) (λ words. faults ≡ told_on None words ∷ []))
