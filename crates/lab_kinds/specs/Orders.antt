-- The faults of a text for all orders: those of the scenario in it, in its own places, and those of what is asked.
use Rattle.std.specs.Prelude.{◌≡◌, ◌⊎◌, ℕ, MatchBool, nat_le, nat_lt, Bool, true, false, ◌&&◌, ◌||◌, List, [], ◌∷◌, ◌++◌, codes, count_by, flat_map, length, if◌then◌else◌, Option, None, Some, Err, is_ok, is_some, option_and_then, option_map}
use Rattle.std.specs.List.{list_any}
use Rattle.std.specs.Option.{option_or}
use Rattle.std.specs.Str.{bytes_eq, is_utf8, trim, trim_start}
use Rattle.std.specs.Str.Lines.{lines}
use Rattle.toml.specs.Parse.{parse_document}
use Rattle.evl_scenario.specs.Lines.{line_feed}
use Rattle.evl_scenario.specs.Scenarios.{scenario_of}
use Rattle.evl_scenario.specs.Values.{past_front}
use Rattle.evl_scenario.specs.declared.faults.Fault.{Fault}
use Rattle.evl_scenario.specs.declared.faults.Fault.TheVariants.{Board}
use Rattle.lab_faults.specs.Checks.{FindsText, Tells}
use Rattle.lab_faults.specs.Keys.{text_headings, text_keys}
use Rattle.lab_faults.specs.Pieces.{pieces}
use Rattle.lab_faults.specs.Steps.{is_among, name_between, number_of}
use Rattle.lab_faults.specs.Told.{Told, told_at}
use Rattle.lab_faults.specs.Wants.{hint_text}
use Rattle.lab_faults.specs.declared.items.Heading.{Heading}
use Rattle.lab_faults.specs.declared.items.Item.{Item}
use Rattle.lab_faults.specs.declared.tokens.Token.{Token}
use Rattle.lab_callers_text.specs.Readings.{IsRead}
use Rattle.lab_callers_text.specs.declared.reading.CallersText.{CallersText}
use Rattle.lab_kinds.specs.Asking.{AskedLast, open_text, told_on}
use Rattle.lab_kinds.specs.Callers.{TellsRefused}
use Rattle.lab_kinds.specs.Kinds.{is_headed, kind_of}
use Rattle.lab_kinds.specs.Plains.{is_question_key, open_question, plain_within, unquestioned_within}
use Rattle.lab_kinds.specs.Tables.{field_faults, unknown_text}
use Rattle.lab_kinds.specs.Words.{ask_keys, is_word, step_ask_keys, step_ask_names}
use Rattle.lab_kinds.specs.declared.kinds.TextKind.{TextKind}
use Rattle.lab_kinds.specs.declared.kinds.TextKind.TheVariants.{Callers}
use Rattle.lab_scenario_orders.specs.Asks.{begins}
use Rattle.lab_scenario_orders.specs.Splits.{as_step, is_asked, is_setup}

-- ---- the parts of a text, each line at its place

-- a line of the scenario, which is empty if it is of what is asked
abbrev pub scenario_line : Bool → List ℕ → List ℕ
scenario_line is_asked line = if is_asked then line_feed else as_step line ++ line_feed

abbrev pub scenario_from : Bool → List (List ℕ) → List ℕ
scenario_from was [] = []
scenario_from was (line ∷ rest) = scenario_line (is_asked was line) line ++ scenario_from (is_asked was line) rest

-- a line of what is asked, which is empty if it is not
abbrev pub asked_line : Bool → List ℕ → List ℕ
asked_line is_asked line = if is_asked then line ++ line_feed else line_feed

abbrev pub asked_from : Bool → List (List ℕ) → List ℕ
asked_from was [] = []
asked_from was (line ∷ rest) = asked_line (is_asked was line) line ++ asked_from (is_asked was line) rest

-- the scenario and what is asked of a text, and how many steps are set up
abbrev pub scenario_within : List ℕ → List ℕ
scenario_within text = scenario_from false (lines text)

abbrev pub asked_within : List ℕ → List ℕ
asked_within text = asked_from false (lines text)

abbrev pub setup_count : List ℕ → ℕ
setup_count text = count_by is_setup (lines text)

-- ---- steps that are set up

abbrev pub mixed_text : List ℕ
mixed_text = codes "a [[setup]] stands below a [[step]]: steps are set up first"

-- of one, where a step that is not was seen above it
abbrev pub mixed_fault : List ℕ → Bool → Heading → List Told
mixed_fault text seen heading = if seen && is_headed text (codes "setup") heading then told_at text Board heading.name.0 mixed_text ∷ [] else []

abbrev pub mixed_faults : List ℕ → Bool → List Heading → List Told
mixed_faults text seen [] = []
mixed_faults text seen (heading ∷ rest) = mixed_fault text seen heading ++ mixed_faults text (seen || is_headed text (codes "step") heading) rest

abbrev pub set_up_faults : List ℕ → List Told
set_up_faults text = mixed_faults text false (text_headings text)

-- ---- what is asked

-- the callers of a scenario of which the first steps are set up, as numbers
abbrev pub caller_of : List ℕ → ℕ → Item → List (List ℕ)
caller_of text setup item =
    if nat_lt setup (number_of item.section) && bytes_eq (name_between text item.key) (codes "who") then name_between text item.value ∷ [] else []

unfoldable pub callers_of : List ℕ → ℕ → List (List ℕ)
callers_of text setup = flat_map (caller_of text setup) (text_keys text)

-- the answer after an arrow, without the white space around either
abbrev pub behind_arrow : List ℕ → Option (List ℕ)
behind_arrow text = option_map trim (past_front (codes "->") (trim_start text))

-- a text at `never` is a caller and then that: the answer in a text of this caller, and of the first of these
abbrev pub answer_by : List ℕ → List ℕ → Option (List ℕ)
answer_by name who = option_and_then behind_arrow (past_front (codes "T" ++ who) (trim_start name))

abbrev pub answer_of : List ℕ → List (List ℕ) → Option (List ℕ)
answer_of name [] = None
answer_of name (who ∷ rest) = option_or (answer_by name who) (answer_of name rest)

-- the answers that have no number, but for refusals
unfoldable pub plain_answers : List (List ℕ)
plain_answers = codes "done" ∷ codes "begun" ∷ codes "timed out" ∷ codes "thread none" ∷ codes "next none" ∷ []

-- how answers with a number or bytes begin
unfoldable pub number_answers : List (List ℕ)
number_answers =
    codes "count " ∷ codes "bits " ∷ codes "number " ∷ codes "bytes " ∷ codes "thread " ∷ codes "next " ∷ []

-- the names of refusals
unfoldable pub refusal_answers : List (List ℕ)
refusal_answers =
    codes "HistoryFull" ∷ codes "Unknown" ∷ codes "Invalid" ∷ codes "Again" ∷ codes "Busy" ∷ codes "NotOwner" ∷ codes "Deadlock" ∷ codes "Limit"
    ∷ codes "Range" ∷ codes "TooBig" ∷ codes "WrongStage" ∷ []

-- what steps of callers alone are answered
unfoldable pub step_answers : List (List ℕ)
step_answers = codes "pass" ∷ codes "Raced" ∷ codes "CoreBusy" ∷ codes "done, others want in" ∷ []

abbrev pub has_front : List ℕ → List ℕ → Bool
has_front answer front = begins front answer

-- some call is answered so
abbrev pub is_answer : List ℕ → Bool
is_answer answer = is_among plain_answers answer || (is_among refusal_answers answer || list_any (has_front answer) number_answers)

unfoldable pub no_caller_text : List ℕ → List ℕ
no_caller_text name = codes "never: \"" ++ (name ++ codes "\": a thread that has a [[step]] and one answer are wanted, as \"T1 -> timed out\"")

-- a near answer is named
abbrev pub near_step_text : Bool → List ℕ → List ℕ
near_step_text is_of_steps answer = if is_of_steps then hint_text answer step_answers else []

abbrev pub near_answer_text : Bool → List ℕ → List ℕ
near_answer_text is_of_steps answer = (hint_text answer plain_answers ++ hint_text answer refusal_answers) ++ near_step_text is_of_steps answer

unfoldable pub no_answer_text : Bool → List ℕ → List ℕ
no_answer_text is_of_steps answer = codes "never: no call is answered \"" ++ (answer ++ (codes "\"" ++ near_answer_text is_of_steps answer))

-- some call is answered so, or, where steps of callers are gone through, some step
abbrev pub is_answer_of : Bool → List ℕ → Bool
is_answer_of is_of_steps answer = is_answer answer || (is_of_steps && is_among step_answers answer)

-- of a text with this name and answer
abbrev pub answer_faults : List ℕ → Bool → Token → List ℕ → Option (List ℕ) → List Told
answer_faults text is_of_steps piece name None = told_at text Board piece.from (no_caller_text name) ∷ []
answer_faults text is_of_steps piece name (Some answer) =
    if is_answer_of is_of_steps answer then [] else told_at text Board piece.from (no_answer_text is_of_steps answer) ∷ []

-- a text in a list
abbrev pub is_listed : ℕ × ℕ → Token → Bool
is_listed value piece = is_word piece.kind && (nat_le value.0 piece.from && nat_le piece.to value.1)

-- a key that asks of moments is without quotes
unfoldable pub quoted_text : List ℕ → List ℕ
quoted_text key = codes "[ask]: " ++ (key ++ codes " is written without quotes")

-- of a key of what is asked of callers' steps, but for the lines that ask of moments
abbrev pub step_key_faults : List ℕ → Item → List Told
step_key_faults text item =
    let key = name_between text item.key in
    if is_among step_ask_keys key then field_faults text Board (codes "[ask]: ") step_ask_keys item
    else if is_question_key key then told_at text Board item.key.0 (quoted_text key) ∷ []
    else told_at text Board item.key.0 (unknown_text (codes "[ask]: ") step_ask_names key) ∷ []

-- of callers' steps, or of whole calls
abbrev pub key_faults : List ℕ → Bool → Item → List Told
key_faults text is_of_steps item = if is_of_steps then step_key_faults text item else field_faults text Board (codes "[ask]: ") ask_keys item

module _ (text : List ℕ) (callers : List (List ℕ)) (is_of_steps : Bool) where
  unfoldable pub never_faults : Token → List Told
  never_faults piece =
      let name = name_between text (piece.from, piece.to) in answer_faults text is_of_steps piece name (answer_of name callers)

  abbrev pub listed_faults : ℕ × ℕ → Token → List Told
  listed_faults value piece = if is_listed value piece then never_faults piece else []

  abbrev pub never_item_faults : List Token → Item → List Told
  never_item_faults pieces item = if bytes_eq (name_between text item.key) (codes "never") then flat_map (listed_faults item.value) pieces else []

  -- of a key of what is asked
  unfoldable pub ask_item_faults : List Token → Item → List Told
  ask_item_faults pieces item = key_faults text is_of_steps item ++ never_item_faults pieces item

  unfoldable pub ask_faults : List Told
  ask_faults = flat_map (ask_item_faults (pieces text)) (text_keys text)

-- ---- all

-- the scenario in a text is one of callers, whose steps are gone through
abbrev pub is_of_callers : TextKind → Bool
is_of_callers Callers = true
is_of_callers _ = false

abbrev pub is_of_steps : List ℕ → Bool
is_of_steps scenario = is_of_callers (kind_of scenario)

-- of a text with this scenario, of which the first steps are set up, and this that is asked
abbrev pub faults_of : List ℕ → List ℕ → ℕ → List ℕ → List Told
faults_of text scenario setup asked = set_up_faults text ++ ask_faults asked (callers_of scenario setup) (is_of_steps scenario)

-- what is asked is no document, or it is
pub record AskedTells (text scenario : List ℕ) (setup : ℕ) (asked : List ℕ) (faults : List Told) : Type 0 where
  pub refused : parse_document asked ≡ None → FindsText asked faults
  pub read : is_some (parse_document asked) ≡ true → faults ≡ faults_of text scenario setup asked

-- the scenario's own faults, or else those
pub record TextTells (text scenario : List ℕ) (setup : ℕ) (asked : List ℕ) (faults : List Told) : Type 0 where
  pub refused : (fault : Fault) → scenario_of None scenario ≡ Err fault → Tells scenario fault faults
  pub read : is_ok (scenario_of None scenario) ≡ true → AskedTells text scenario setup asked faults

-- facts of moments that are no list on their line, or else what is asked beside them
abbrev pub QuestionsTell : List ℕ → List ℕ → ℕ → List ℕ → Option ℕ → List Told → Type 0
QuestionsTell text scenario setup own (Some line) faults = faults ≡ told_on (Some line) open_text ∷ []
QuestionsTell text scenario setup own None faults = AskedTells text scenario setup own faults

-- the same where the scenario is one of callers
abbrev pub StepsTell : List ℕ → List ℕ → ℕ → List ℕ → List ℕ → List Told → Type 0
StepsTell text scenario setup asked own faults =
    ((read : CallersText) × IsRead None scenario read × QuestionsTell text scenario setup own (open_question asked) faults)
    ⊎ TellsRefused scenario faults

abbrev pub PartsTell : List ℕ → List ℕ → List ℕ → ℕ → List ℕ → List ℕ → List Told → Type 0
PartsTell text scenario plain setup asked own faults =
    MatchBool (is_of_steps scenario) (StepsTell text plain setup asked own faults) (TextTells text scenario setup asked faults)

-- where nothing is found in its parts, the orders of whole calls can be asked for, or are refused for what reads them
abbrev pub Behind : List ℕ → Bool → List Told → List Told → Type 0
Behind text is_of_steps (one ∷ rest) faults = faults ≡ one ∷ rest
Behind text is_of_steps [] faults = MatchBool is_of_steps (faults ≡ []) (AskedLast text faults)

-- in a text of steps those of the text of callers in it, and of what is asked but of moments
pub record PartedTells (text scenario plain : List ℕ) (setup : ℕ) (asked own : List ℕ) (faults : List Told) : Type 0 where
  pub found : List Told
  pub parts : PartsTell text scenario plain setup asked own found
  pub behind : Behind text (is_of_steps scenario) found faults

abbrev pub LinesTell : List ℕ → List Told → Type 0
LinesTell text faults = PartedTells text (scenario_within text) (plain_within text) (setup_count text) (asked_within text) (unquestioned_within text) faults

-- rule: A text for orders has the faults of the scenario (or of the text of callers) in it, each in its place, or else
--   of steps set up below others and of what is asked (of callers' steps: the first facts that are no list on their
--   line, or else what is asked but at moments), or that this is no TOML; where it has none, a text of whole calls can
--   be asked for: `lab orders` reads its callers and what is asked of them, and each answer at `never` is one that a
--   step of its caller can have; or that is its fault, at the line of its key, with a word on `finish` if waits end so.
--   also: Orders.{LinesTell, scenario_within, asked_within, faults_of}; Plains.{unquestioned_within, open_question};
--   Asking.AskedLast
--   clauses: check_orders
-- of bytes that may be no text
pub record OrdersTell (text : List ℕ) (faults : List Told) : Type 0 where
  pub refused : is_utf8 text ≡ false → FindsText text faults
  pub read : is_utf8 text ≡ true → LinesTell text faults
