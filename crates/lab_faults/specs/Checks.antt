-- The report of a text that can't be played. If it is no TOML, the place is the one that TOML's reader gives.
use Rattle.std.specs.Prelude.{◌≡◌, ◌≢◌, ◌<◌, ◌≤◌, ◌⊎◌, ℕ, List, [], ◌∷◌, ◌++◌, codes, decimal, length, map, Option, None, Some, is_some, true, IsUtf8}
use Rattle.toml.specs.Errors.{IsMemory, IsWithin, span_start}
use Rattle.toml.specs.Parse.{parse_document}
use Rattle.toml.specs.declared.de.error.Error.{Error}
use Rattle.evl_scenario.specs.declared.faults.Fault.{Fault}
use Rattle.evl_scenario.specs.declared.faults.Fault.TheVariants.{Text, Board, Step, Memory, Write}
use Rattle.lab_faults.specs.Boards.{board_faults}
use Rattle.lab_faults.specs.Faults.{found_lines}
use Rattle.lab_faults.specs.Keys.{text_headings, text_keys}
use Rattle.lab_faults.specs.Quotes.{unquoted_at, unquoted_text}
use Rattle.lab_faults.specs.Steps.{all_step_faults}
use Rattle.lab_faults.specs.Told.{Told, fault_told, told_at}
use Rattle.lab_faults.specs.declared.found.Found.{Found}
use Rattle.lab_faults.specs.declared.items.Item.{Item}

-- ---- of the text

abbrev pub not_toml_text : List ℕ → List ℕ
not_toml_text why = codes "no TOML in UTF-8: " ++ why

-- rule: Faults, their order, places and words are the definition's: of the board unknown headings and keys, unfit
--   values, missing `threads`; of a step that cannot be read a missing or unknown word, unknown keys, else missing keys
--   and unfit values, else only that. A value fits if its small scenario can be read. A text too long, or no TOML in
--   UTF-8, has only that fault, at the place and with some reason that the reader gives; if a key's value begins there
--   and is words without quotes, that is said instead (nothing is reported if it stopped for want of memory). The fault
--   that refuses the text goes first, at line 1 if it was not found first. A key is a word before an equals sign, of
--   the heading above or the braces around it; blanks and comments are no pieces of a text.
--   also: Checks.TellsWhy; Quotes.unquoted_at
--   clauses: check; check_board; check_steps; tokens_of; items_of
--   rows: a_text_that_is_no_toml_is_told; each_fault_is_told; faults_of_a_list_of_steps_are_told;
--   names_in_quotes_are_no_faults; keys_below; listed_steps; number_at; quoted_and_comment; single_quotes;
--   two_headings; words_at
-- the reader of TOML stopped at a place in a text that is no document
pub record StopsAt (text : List ℕ) (stop : Error) (at : ℕ) : Type 0 where
  pub no_document : IsUtf8 text → parse_document text ≡ None
  pub read : ¬ IsMemory stop
  pub within : IsWithin text stop
  pub there : at ≡ span_start stop

-- some reason is reported; at a value without quotes just that
abbrev pub SaysWhy : List ℕ → Option Item → List ℕ → Type 0
SaysWhy text (Some item) words = words ≡ unquoted_text text item
SaysWhy text None words = (why : List ℕ) × (why ≢ []) × (words ≡ not_toml_text why)

abbrev pub TellsWhy : List ℕ → ℕ → List ℕ → Type 0
TellsWhy text at words = SaysWhy text (unquoted_at text (text_keys text) at) words

-- a text of few bytes: it is a document that can't be read, or is none from where the reader stopped
abbrev pub IsRefusedFor : List ℕ → ℕ → List ℕ → Type 0
IsRefusedFor text at words =
    ((is_some (parse_document text) ≡ true) × (at ≡ 0) × (words ≡ codes "the text can't be read"))
    ⊎ ((stop : Error) × StopsAt text stop at × TellsWhy text at words)

-- any text: it is too long, or that
pub record IsTextFault (text : List ℕ) (at : ℕ) (words : List ℕ) : Type 0 where
  pub long : 1048576 < length text → (at ≡ 1048576) × (words ≡ codes "the text has more than 1048576 bytes")
  pub short : length text ≤ 1048576 → IsRefusedFor text at words

-- ---- by what it is refused for

pub record FindsText (text : List ℕ) (faults : List Told) : Type 0 where
  pub at : ℕ
  pub words : List ℕ
  pub says : IsTextFault text at words
  pub told : faults ≡ told_at text Text at words ∷ []

-- of the steps
abbrev pub faults_in_steps : List ℕ → List Told
faults_in_steps text = all_step_faults text (text_keys text)

-- of the board, of what is beside it, and of the steps
abbrev pub faults_in_all : List ℕ → List Told
faults_in_all text = board_faults text (text_headings text) (text_keys text) ++ faults_in_steps text

abbrev pub Finds : List ℕ → Fault → List Told → Type 0
Finds text Text faults = FindsText text faults
Finds text (Step number) faults = faults ≡ faults_in_steps text
Finds text _ faults = faults ≡ faults_in_all text

-- ---- with that in front

abbrev pub plain_text : Fault → List ℕ
plain_text Text = codes "the text can't be read"
plain_text Board = codes "the board, or what stands beside it, can't be read"
plain_text (Step number) = codes "step " ++ (decimal number ++ codes " can't be read")
plain_text Memory = codes "no memory"
plain_text Write = codes "the output failed"

abbrev pub plain_told : Fault → Told
plain_told fault = record { fault = fault; place = record { line = 1; column = 1 }; words = plain_text fault }

abbrev pub first_told : List Told → Option Fault
first_told [] = None
first_told (one ∷ rest) = Some one.fault

-- what is found, where this fault is the first; else it goes before that
abbrev pub IsLed : Fault → List Told → List Told → Type 0
IsLed fault found faults =
    ((first_told found ≡ Some fault) × (faults ≡ found)) ⊎ ((first_told found ≢ Some fault) × (faults ≡ plain_told fault ∷ found))

-- what is reported of a text that is refused for this fault
pub record Tells (text : List ℕ) (fault : Fault) (faults : List Told) : Type 0 where
  pub found : List Told
  pub finds : Finds text fault found
  pub led : IsLed fault found faults

-- rule: A report gains the faults' lines `FILE:LINE:COLUMN: words`, in order, and answers whether the text cannot be
--   played. After want of memory its content is not known.
--   also: Faults.TellsFaults
--   clauses: report
-- its lines were added
pub record TellsLines (name text : List ℕ) (fault : Fault) (old new : List ℕ) : Type 0 where
  pub found : List Found
  pub tells : Tells text fault (map fault_told found)
  pub lines : new ≡ old ++ found_lines name found
