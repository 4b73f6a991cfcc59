-- The faults of a text of callers.
use Rattle.std.specs.Prelude.{◌≡◌, ◌⊎◌, ℕ, ◌==◌, Bool, ◌&&◌, List, [], ◌∷◌, ◌++◌, codes, decimal, flat_map, if◌then◌else◌, Option, None, Some}
use Rattle.std.specs.Str.{bytes_eq}
use Rattle.evl_scenario.specs.declared.faults.Fault.{Fault}
use Rattle.evl_scenario.specs.declared.faults.Fault.TheVariants.{Text, Board, Step}
use Rattle.lab_callers_text.specs.Readings.{IsRead, IsRefused}
use Rattle.lab_callers_text.specs.declared.reading.CallersText.{CallersText}
use Rattle.lab_faults.specs.Boards.{heading_faults, is_of_board, item_faults, threads_faults}
use Rattle.lab_faults.specs.Checks.{FindsText, IsLed}
use Rattle.lab_faults.specs.Keys.{text_headings, text_keys}
use Rattle.lab_faults.specs.Steps.{fault_of, first_byte, first_number, item_at, name_between, runs, step_faults, text_between}
use Rattle.lab_faults.specs.Told.{Told, told_at}
use Rattle.lab_faults.specs.declared.items.Heading.{Heading}
use Rattle.lab_faults.specs.declared.items.Item.{Item}
use Rattle.lab_kinds.specs.Tables.{field_faults, missing_faults}
use Rattle.lab_kinds.specs.Words.{fits_staxes, own_keys}

-- ---- the board

abbrev pub staxes_text : List ℕ → List ℕ
staxes_text value = codes "staxes = " ++ (value ++ codes ": a list of at most 16 numbers from 1 to 1000 is wanted")

-- what is said of a step begins with its number and word
unfoldable pub step_place : ℕ → List ℕ → List ℕ
step_place number word = codes "step " ++ (decimal number ++ (codes ": " ++ (word ++ codes ": ")))

module _ (text : List ℕ) where
  abbrev pub is_staxes : Item → Bool
  is_staxes item = is_of_board item.section && bytes_eq (name_between text item.key) (codes "staxes")

  abbrev pub staxes_faults : Item → List Told
  staxes_faults item =
      let value = text_between text item.value in if fits_staxes value then [] else told_at text Board item.value.0 (staxes_text value) ∷ []

  -- of a key that is in no step: those of a scenario, but for the limits of staxes
  unfoldable pub callers_item_faults : Item → List Told
  callers_item_faults item = if is_staxes item then staxes_faults item else item_faults text item

  -- ---- the steps

  -- of a key of a step but `do`
  abbrev pub own_field_faults : ℕ → List ℕ → List (List ℕ) → Item → List Told
  own_field_faults number place keys item =
      if bytes_eq (name_between text item.key) (codes "do") then [] else field_faults text (fault_of number) place keys item

  -- of a step with a word that callers alone have
  unfoldable pub own_step_faults : ℕ → List Item → List ℕ → List (List ℕ) → List Told
  own_step_faults number items word keys =
      let place = step_place number word in
      flat_map (own_field_faults number place keys) items
      ++ flat_map (missing_faults text (fault_of number) place items (first_byte items)) keys

  -- the keys of a step's word, if callers alone have it
  abbrev pub word_keys : Option Item → Option (List (List ℕ))
  word_keys None = None
  word_keys (Some call) = own_keys (name_between text call.value)

  abbrev pub word_name : Option Item → List ℕ
  word_name None = []
  word_name (Some call) = name_between text call.value

  -- of a step by that
  abbrev pub faults_by : ℕ → List Item → List ℕ → Option (List (List ℕ)) → List Told
  faults_by number items word None = step_faults text number items
  faults_by number items word (Some keys) = own_step_faults number items word keys

  unfoldable pub callers_step_faults : List Item → List Told
  callers_step_faults items =
      let call = item_at text items (codes "do") in
      if first_number items == 0 then [] else faults_by (first_number items) items (word_name call) (word_keys call)

  unfoldable pub all_callers_step_faults : List Item → List Told
  all_callers_step_faults items = flat_map callers_step_faults (runs items)

  -- ---- all

  unfoldable pub callers_board_faults : List Heading → List Item → List Told
  callers_board_faults headings items =
      flat_map (heading_faults text) headings ++ (flat_map callers_item_faults items ++ threads_faults text headings items)

-- of the steps, and of the board and of what is beside it too
abbrev pub faults_in_steps : List ℕ → List Told
faults_in_steps text = all_callers_step_faults text (text_keys text)

abbrev pub faults_in_all : List ℕ → List Told
faults_in_all text = callers_board_faults text (text_headings text) (text_keys text) ++ faults_in_steps text

-- by what it is refused for, which is neither want of memory nor a write
abbrev pub CallersFind : List ℕ → Fault → List Told → Type 0
CallersFind text Text faults = FindsText text faults
CallersFind text Board faults = faults ≡ faults_in_all text
CallersFind text (Step number) faults = faults ≡ faults_in_steps text
CallersFind text _ faults = ⊥

-- the fault that it is refused for comes first
pub record CallersTell (text : List ℕ) (fault : Fault) (faults : List Told) : Type 0 where
  pub found : List Told
  pub finds : CallersFind text fault found
  pub led : IsLed fault found faults

-- a text that is refused, for this fault; one that is read has none
abbrev pub TellsRefused : List ℕ → List Told → Type 0
TellsRefused text faults = (fault : Fault) × IsRefused None text fault × CallersTell text fault faults

-- rule: A text of callers without fault is read as one. Its faults are those of the board with staxes and of the steps,
--   of only the steps if it is refused for one, or the text's; the one for which it is refused comes first. A step of
--   the kernel has its faults of a scenario.
--   also: Callers.{CallersTell, callers_step_faults}
--   clauses: check_callers
abbrev pub TellsCallers : List ℕ → List Told → Type 0
TellsCallers text faults = ((read : CallersText) × IsRead None text read × (faults ≡ [])) ⊎ TellsRefused text faults
