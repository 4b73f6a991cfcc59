-- The faults of steps, in the order in which they are reported.
use Rattle.std.specs.Prelude.{ℕ, ◌+◌, ◌-◌, ◌==◌, nat_le, Bool, not, ◌&&◌, ◌||◌, List, [], ◌∷◌, ◌++◌, codes, decimal, drop, find, flat_map, is_some, length, map, min, option_map, slice_index, slice_range, if◌then◌else◌, Option, None, Some, is_ok}
use Rattle.std.specs.List.{list_any, prefix_len}
use Rattle.std.specs.Str.{bytes_eq, is_utf8}
use Rattle.evl_base.specs.Calls.{name_of, words}
use Rattle.evl_scenario.specs.Lines.{line_feed}
use Rattle.evl_scenario.specs.Scenarios.{scenario_of}
use Rattle.evl_scenario.specs.Steps.{keys_of, word_of}
use Rattle.evl_scenario.specs.declared.faults.Fault.{Fault}
use Rattle.evl_scenario.specs.declared.faults.Fault.TheVariants.{Step}
use Rattle.lab_faults.specs.Faults.{may_lack}
use Rattle.lab_faults.specs.Told.{Told, told_at}
use Rattle.lab_faults.specs.Wants.{hint_text, meant_or_near_text, names_text, sample_text, wanted_text}
use Rattle.lab_faults.specs.declared.items.Item.{Item}
use Rattle.lab_faults.specs.declared.items.Section.{Section}
use Rattle.lab_faults.specs.declared.items.Section.TheVariants.{Step as InStep}

-- ---- what is in a text

-- the bytes between two places; none where the text has no such places
abbrev pub bytes_between : List ℕ → ℕ × ℕ → List ℕ
bytes_between text range = if nat_le range.0 range.1 && nat_le range.1 (length text) then slice_range text range.0 range.1 else []

-- the bytes, if they are text
abbrev pub as_text : List ℕ → List ℕ
as_text bytes = if is_utf8 bytes then bytes else []

abbrev pub text_between : List ℕ → ℕ × ℕ → List ℕ
text_between text range = as_text (bytes_between text range)

-- a quote at both ends
abbrev pub is_within : ℕ → List ℕ → Bool
is_within quote name = nat_le 2 (length name) && (slice_index name 0 == quote && slice_index name (length name - 1) == quote)

-- a name without the quotes around it
abbrev pub unquoted : List ℕ → List ℕ
unquoted name = if is_within 34 name || is_within 39 name then slice_range name 1 (length name - 1) else name

abbrev pub name_between : List ℕ → ℕ × ℕ → List ℕ
name_between text range = as_text (unquoted (bytes_between text range))

-- ---- what can be read

-- whether a text is a scenario
unfoldable pub is_scenario : List ℕ → Bool
is_scenario text = is_ok (scenario_of None text)

-- a key with its value, on a line
abbrev pub pair_line : List ℕ → List ℕ → List ℕ
pair_line key value = key ++ (codes " = " ++ (value ++ line_feed))

-- a value at another key than this one
abbrev pub pair_beside : List ℕ → List ℕ → List ℕ → List ℕ
pair_beside key other value = if bytes_eq key other then [] else pair_line other value

-- whether a value can be at a key of a board
unfoldable pub fits_board : List ℕ → List ℕ → Bool
fits_board key value =
    is_scenario (codes "[board]\n" ++ (pair_beside key (codes "threads") (codes "1") ++ pair_line key value))

-- whether a value can be at the limit
unfoldable pub fits_limit : List ℕ → Bool
fits_limit value = is_scenario (pair_line (codes "limit") value ++ codes "[board]\nthreads = 1\n")

abbrev pub step_head : List ℕ
step_head = codes "[board]\nthreads = 1\n[[step]]\n"

-- a key with its value as they are in a text
abbrev pub item_line : List ℕ → Item → List ℕ
item_line text item = pair_line (bytes_between text item.key) (bytes_between text item.value)

-- whether a step of these keys and values can be read
unfoldable pub is_step : List ℕ → List Item → Bool
is_step text items = is_scenario (step_head ++ flat_map (item_line text) items)

-- the keys of a step with this word, but for its word and its thread
abbrev pub own_keys : List ℕ → Option (List (List ℕ))
own_keys word = option_map (drop 2) (option_map keys_of (word_of word))

-- a value that can be at a key, unless it is this one, or may be left out
abbrev pub other_line : List ℕ → List ℕ → List ℕ
other_line key other = if bytes_eq other key || may_lack other then [] else pair_line other (sample_text other)

abbrev pub other_lines : List ℕ → Option (List (List ℕ)) → List ℕ
other_lines key None = []
other_lines key (Some keys) = flat_map (other_line key) keys

-- the beginning of a step with this word
unfoldable pub word_head : List ℕ → List ℕ
word_head word = step_head ++ (codes "do = \"" ++ (word ++ codes "\"\n"))

-- whether a value can be at a key of a step with this word, whatever is at the others
unfoldable pub fits_step : List ℕ → List ℕ → List ℕ → Bool
fits_step word key value =
    is_scenario (word_head word ++ (pair_line key value ++ (pair_beside key (codes "who") (codes "0") ++ other_lines key (own_keys word))))

-- ---- a step's faults

-- the item at a key, if there is one
abbrev pub item_at : List ℕ → List Item → List ℕ → Option Item
item_at text items key = find (λ item. bytes_eq (name_between text item.key) key) items

abbrev pub is_among : List (List ℕ) → List ℕ → Bool
is_among keys key = list_any (bytes_eq key) keys

abbrev pub fault_of : ℕ → Fault
fault_of number = Step (min number 4294967295)

-- where a step's first key is
abbrev pub first_byte : List Item → ℕ
first_byte [] = 0
first_byte (item ∷ rest) = item.key.0

-- the words of all steps
unfoldable pub step_words : List (List ℕ)
step_words = map name_of words

-- a key that its word has
abbrev pub is_own : List (List ℕ) → List ℕ → Bool
is_own keys key = bytes_eq key (codes "who") || is_among keys key

-- a key that its word doesn't have
abbrev pub is_unknown : List ℕ → List (List ℕ) → Item → Bool
is_unknown text keys item = let key = name_between text item.key in not (bytes_eq key (codes "do") || is_own keys key)

-- a value that can't be at its key
abbrev pub is_misfit : List ℕ → List ℕ → List (List ℕ) → Item → Bool
is_misfit text word keys item = let key = name_between text item.key in is_own keys key && not (fits_step word key (text_between text item.value))

-- ---- the words of a step's faults

abbrev pub in_step : ℕ → List ℕ → List ℕ
in_step number words = codes "step " ++ (decimal number ++ words)

-- a key that the step's word doesn't have
unfoldable pub unknown_text : ℕ → List ℕ → List (List ℕ) → List ℕ → List ℕ
unknown_text number word keys key =
    in_step number (codes ": " ++ (word ++ (codes " has no key \"" ++ (key ++ (codes "\"" ++ (hint_text key keys ++ (codes " (keys: " ++ (names_text keys ++ codes ")"))))))))

-- a key that is missing
unfoldable pub missing_text : ℕ → List ℕ → List ℕ → List ℕ
missing_text number word key =
    in_step number (codes ": " ++ (word ++ (codes " needs a key \"" ++ (key ++ (codes "\": " ++ (wanted_text key ++ codes " is wanted there"))))))

-- a value that can't be at its key
unfoldable pub misfit_text : ℕ → List ℕ → List ℕ → List ℕ
misfit_text number key value = in_step number (codes ": " ++ (key ++ (codes " = " ++ (value ++ (codes ": " ++ (wanted_text key ++ codes " is wanted"))))))

-- a word that no call has
unfoldable pub no_call_text : ℕ → List ℕ → List ℕ
no_call_text number word = in_step number (codes ": there is no call \"" ++ (word ++ (codes "\"" ++ meant_or_near_text word step_words)))

-- no word
unfoldable pub no_word_text : ℕ → List ℕ
no_word_text number = in_step number (codes ": there is no key \"do\"")

-- anything else
unfoldable pub unread_text : ℕ → List ℕ
unread_text number = in_step number (codes " can't be read")

-- ---- the faults of a step

-- of the step of this number
module _ (text : List ℕ) (number : ℕ) where
  -- what is said of it at a byte
  abbrev pub step_told : ℕ → List ℕ → Told
  step_told at words = told_at text (fault_of number) at words

  -- a key that its word doesn't have
  unfoldable pub unknown_faults : List ℕ → List (List ℕ) → Item → List Told
  unknown_faults word keys item =
      if is_unknown text keys item then step_told item.key.0 (unknown_text number word keys (name_between text item.key)) ∷ [] else []

  -- a key that is missing, unless it may be
  unfoldable pub missing_faults : List Item → ℕ → List ℕ → List ℕ → List Told
  missing_faults items at word key =
      if may_lack key || is_some (item_at text items key) then [] else step_told at (missing_text number word key) ∷ []

  -- a value that can't be at its key
  unfoldable pub misfit_faults : List ℕ → List (List ℕ) → Item → List Told
  misfit_faults word keys item =
      if is_misfit text word keys item
      then step_told item.value.0 (misfit_text number (name_between text item.key) (text_between text item.value)) ∷ []
      else []

  -- missing keys are reported where no key is unknown
  abbrev pub lacking_faults : List Item → ℕ → List ℕ → List (List ℕ) → List Told
  lacking_faults items at word keys = if list_any (is_unknown text keys) items then [] else flat_map (missing_faults items at word) (codes "who" ∷ keys)

  -- of a step whose word is known
  unfoldable pub key_faults : List Item → ℕ → List ℕ → List (List ℕ) → List Told
  key_faults items at word keys =
      flat_map (unknown_faults word keys) items ++ (lacking_faults items at word keys ++ flat_map (misfit_faults word keys) items)

  -- of a word that may be known
  abbrev pub word_faults : List Item → Item → List ℕ → Option (List (List ℕ)) → List Told
  word_faults items call word (Some keys) = key_faults items call.key.0 word keys
  word_faults items call word None = step_told call.value.0 (no_call_text number word) ∷ []

  -- of a step that can't be read: its word comes first
  abbrev pub call_faults : List Item → ℕ → Option Item → List Told
  call_faults items at None = step_told at (no_word_text number) ∷ []
  call_faults items at (Some call) = let word = name_between text call.value in word_faults items call word (own_keys word)

  -- where nothing else is found
  abbrev pub or_unread : ℕ → List Told → List Told
  or_unread at [] = step_told at (unread_text number) ∷ []
  or_unread at (fault ∷ rest) = fault ∷ rest

  -- of any step
  unfoldable pub step_faults : List Item → List Told
  step_faults items =
      if is_step text items then []
      else or_unread (first_byte items) (call_faults items (first_byte items) (item_at text items (codes "do")))

-- ---- the faults of all steps

-- the step in which an item is, from 1; 0 where it is in none
abbrev pub number_of : Section → ℕ
number_of (InStep number) = number
number_of _ = 0

abbrev pub is_beside : Item → Item → Bool
is_beside first item = number_of item.section == number_of first.section

-- how many items in front are in one step
abbrev pub run_length : List Item → ℕ
run_length [] = 0
run_length (first ∷ rest) = 1 + prefix_len (is_beside first) rest

-- an item in front of runs
abbrev pub onto_run : Item → List (List Item) → List (List Item)
onto_run item [] = (item ∷ []) ∷ []
onto_run item ([] ∷ runs) = (item ∷ []) ∷ runs
onto_run item ((next ∷ run) ∷ runs) = if is_beside item next then (item ∷ next ∷ run) ∷ runs else (item ∷ []) ∷ (next ∷ run) ∷ runs

-- items cut where the next one is in another step
abbrev pub runs : List Item → List (List Item)
runs [] = []
runs (item ∷ rest) = onto_run item (runs rest)

abbrev pub first_number : List Item → ℕ
first_number [] = 0
first_number (item ∷ rest) = number_of item.section

-- of items that are in one step, or in none
unfoldable pub run_faults : List ℕ → List Item → List Told
run_faults text items = if first_number items == 0 then [] else step_faults text (first_number items) items

unfoldable pub all_step_faults : List ℕ → List Item → List Told
all_step_faults text items = flat_map (run_faults text) (runs items)
