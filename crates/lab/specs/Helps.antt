-- The words of `lab help`.
use Rattle.std.specs.Prelude.{◌≡◌, ℕ, List, ◌++◌, codes, map, Bool, true, false, Option, Some, None, is_some}
use Rattle.evl_base.specs.Calls.{name_of, words}
use Rattle.evl_scenario.specs.Steps.{word_of}
use Rattle.lab_faults.specs.Wants.{meant_or_near_text}
use Rattle.lab_json.specs.Calls.{call_named, calls_json}
use Rattle.lab_live.specs.Helps.{call_help, forms_text}
use Rattle.lab_streams.specs.Outputs.{Output, prints, refuses}

-- with the call that may be meant
abbrev pub no_call_text : List ℕ → List ℕ
no_call_text word = codes "lab: there is no call " ++ (word ++ (meant_or_near_text word (map name_of words) ++ codes " (./lab help tells all)\n"))

-- of a word that is a call's, or of another one
abbrev pub HelpsWith : Bool → List ℕ → Output → Type 0
HelpsWith true word output = output ≡ prints (call_help word)
HelpsWith false word output = output ≡ refuses 3 (no_call_text word)

-- rule: `lab help` prints the form of each call, with a word that of one call and what its keys take, with `--json` the
--   list of the calls or the line of one, and answers 0. For a word that no call has it says so on standard error, with
--   the call that may be meant, prints nothing and answers 3.
--   also: Helps.{HelpsJson, no_call_text}
--   clauses: help; help_json; tell_no_call
--   rows: help_tells_what_keys_take
abbrev pub Helps : Option (List ℕ) → Output → Type 0
Helps None output = output ≡ prints forms_text
Helps (Some word) output = HelpsWith (is_some (word_of word)) word output

-- as JSON
abbrev pub HelpsJsonWith : Bool → List ℕ → Output → Type 0
HelpsJsonWith true word output = output ≡ prints (call_named word)
HelpsJsonWith false word output = output ≡ refuses 3 (no_call_text word)

abbrev pub HelpsJson : Option (List ℕ) → Output → Type 0
HelpsJson None output = output ≡ prints calls_json
HelpsJson (Some word) output = HelpsJsonWith (is_some (word_of word)) word output
