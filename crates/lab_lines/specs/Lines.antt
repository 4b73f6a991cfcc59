-- The line of a call as the small scenario that it means.
use Rattle.std.specs.Prelude.{ℕ, ◌+◌, ◌-◌, ◌==◌, nat_le, nat_lt, Bool, false, not, ◌&&◌, ◌||◌, List, [], ◌∷◌, ◌++◌, codes, decimal, drop, length, filter, find, flat_map, position, slice_get, slice_index_or, slice_range, string_bytes, take, if◌then◌else◌, Option, Some, None, is_some, option_map, Result, Ok, Err}
use Rattle.std.specs.Char.{is_ascii_alphanumeric}
use Rattle.std.specs.List.{list_all, list_any, slice_split}
use Rattle.std.specs.Option.{option_map_or}
use Rattle.std.specs.Str.{bytes_eq}
use Rattle.evl_scenario.specs.Lines.{line_feed}
use Rattle.evl_scenario.specs.Scenarios.{Script, scenario_of}
use Rattle.evl_scenario.specs.declared.faults.Fault.{Fault}
use Rattle.evl_scenario.specs.declared.steps.Step.{Step}
use Rattle.lab_lines.specs.declared.lines.Heard.{Heard}
use Rattle.lab_lines.specs.declared.lines.Heard.TheVariants.{Step as Asked, Unread as NotRead}
use Rattle.lab_lines.specs.declared.lines.Unread.{Unread}
use Rattle.lab_lines.specs.declared.places.Pair.{Pair}
use Rattle.lab_lines.specs.declared.places.Part.{Part}

-- ---- the line

-- bytes without two of all
abbrev pub without : ℕ → ℕ → List ℕ → List ℕ
without first second bytes = filter (λ c. not (c == first || c == second)) bytes

-- quotes may be in a line, around a value, and say nothing
abbrev pub unquoted : List ℕ → List ℕ
unquoted line = without 34 34 line

-- a byte that can't be in a line: a control, one above ASCII, or a backslash
abbrev pub is_odd : ℕ → Bool
is_odd c = not (nat_le 32 c && nat_le c 126) || c == 92

-- the bytes of a part; none where it goes beyond the line
abbrev pub bytes_at : List ℕ → Part → List ℕ
bytes_at line part = if nat_le part.from part.to && nat_le part.to (length line) then slice_range line part.from part.to else []

-- ---- its words

-- pieces one after the other, with a byte between, each as the part from its first byte on
abbrev pub pieces_from : ℕ → List (List ℕ) → List Part
pieces_from at [] = []
pieces_from at (piece ∷ rest) = record { from = at; to = at + length piece } ∷ pieces_from (at + length piece + 1) rest

abbrev pub has_bytes : Part → Bool
has_bytes part = nat_lt part.from part.to

-- what is between spaces, from a byte on
abbrev pub words_from : ℕ → List ℕ → List Part
words_from at line = filter has_bytes (pieces_from at (slice_split (λ c. c == 32) line))

abbrev pub words_of : List ℕ → List Part
words_of line = words_from 0 line

-- ---- what of it is said

-- a word that ends what is said: a comment, or the arrow before an answer
abbrev pub ends_said : List ℕ → Part → Bool
ends_said line word = slice_index_or (bytes_at line word) 0 0 == 35 || bytes_eq (bytes_at line word) (codes "->")

-- the words before one
abbrev pub up_to_word : List Part → Option ℕ → List Part
up_to_word words None = words
up_to_word words (Some at) = take at words

-- the words before a comment and an answer
abbrev pub said_words : List ℕ → List Part
said_words line = up_to_word (words_of line) (position (ends_said line) (words_of line))

-- one of these words has a byte that can't be in a line
abbrev pub has_odd : List ℕ → List Part → Bool
has_odd line words = list_any (λ word. is_some (position is_odd (bytes_at line word))) words

abbrev pub is_digit : ℕ → Bool
is_digit c = nat_le 48 c && nat_le c 57

-- the number of an entry, or the dash of a call that has none
abbrev pub is_number : List ℕ → Bool
is_number word = bytes_eq word (codes "-") || (not (length word == 0) && list_all is_digit word)

abbrev pub is_numbered : List ℕ → List Part → Bool
is_numbered line [] = false
is_numbered line (first ∷ rest) = is_number (bytes_at line first)

-- the words after the number of an entry, if they begin with one
abbrev pub past_number : List ℕ → List Part → List Part
past_number line words = if is_numbered line words then drop 1 words else words

-- ---- its keys with their values

-- the place of the first equals sign in a word; a word that has one is a key with the beginning of its value
abbrev pub equals_in : List ℕ → Part → Option ℕ
equals_in line word = option_map (λ at. word.from + at) (position (λ c. c == 61) (bytes_at line word))

-- the end of a value after which these words come: it goes up to the next key
abbrev pub value_end : List ℕ → ℕ → List Part → ℕ
value_end line end [] = end
value_end line end (word ∷ rest) = if is_some (equals_in line word) then end else value_end line word.to rest

abbrev pub pair_around : ℕ → ℕ → ℕ → Pair
pair_around from equals end = record { key = record { from = from; to = equals }; value = record { from = equals + 1; to = end } }

-- a pair, if the word is a key, before those of the words after it
abbrev pub pair_before : Part → ℕ → List Pair → Option ℕ → List Pair
pair_before word end pairs None = pairs
pair_before word end pairs (Some equals) = pair_around word.from equals end ∷ pairs

abbrev pub pairs_of : List ℕ → List Part → List Pair
pairs_of line [] = []
pairs_of line (word ∷ rest) = pair_before word (value_end line word.to rest) (pairs_of line rest) (equals_in line word)

-- the first word, if it is no key
abbrev pub odd_word : List ℕ → List Part → Option Part
odd_word line [] = None
odd_word line (word ∷ rest) = if is_some (equals_in line word) then None else Some word

-- ---- its keys that aren't plain

abbrev pub is_key_byte : ℕ → Bool
is_key_byte c = is_ascii_alphanumeric c || c == 95

-- letters, digits and underscores, and one of them
abbrev pub is_plain_key : List ℕ → Bool
is_plain_key key = not (length key == 0) && list_all is_key_byte key

-- where the first key is that isn't plain
abbrev pub odd_key : List ℕ → List Pair → Option Part
odd_key line pairs = option_map (λ pair. pair.key) (find (λ pair. not (is_plain_key (bytes_at line pair.key))) pairs)

-- ---- the small scenario

-- a key with its value, as it is or in quotes, on a line
abbrev pub bare_line : List ℕ → List ℕ → List ℕ
bare_line key value = key ++ (codes " = " ++ (value ++ line_feed))

abbrev pub quoted_line : List ℕ → List ℕ → List ℕ
quoted_line key value = key ++ (codes " = \"" ++ (value ++ codes "\"\n"))

abbrev pub is_truth : List ℕ → Bool
is_truth value = bytes_eq value (codes "true") || bytes_eq value (codes "false")

-- a truth value is without quotes, and where the line has a dash for bytes there are none
abbrev pub pair_line : List ℕ → List ℕ → List ℕ
pair_line key value =
    if bytes_eq key (codes "keep") && is_truth value then bare_line key value
    else if bytes_eq key (codes "bytes") && bytes_eq value (codes "-") then quoted_line key []
    else quoted_line key value

-- the line of a key with its value, which are in a line
abbrev pub pair_line_of : List ℕ → Pair → List ℕ
pair_line_of line pair = pair_line (bytes_at line pair.key) (bytes_at line pair.value)

-- one step, with this word, this thread, and these keys with their values
abbrev pub small_text : List ℕ → Part → Part → List Pair → List ℕ
small_text line word thread pairs =
    codes "[board]\nthreads = 1\n[[step]]\n" ++ (quoted_line (codes "do") (bytes_at line word)
    ++ (quoted_line (codes "who") (bytes_at line thread) ++ flat_map (pair_line_of line) pairs))

-- the byte of the line from which a line of the small scenario comes, of which that of the word is the fourth: of each key one
abbrev pub place_of : ℕ → Part → Part → List Pair → ℕ
place_of number word thread pairs =
    if nat_le number 4 then word.from
    else if number == 5 then thread.from
    else option_map_or (λ pair. pair.key.from) (slice_get pairs (number - 6)) word.from

-- ---- the step

-- the last of a scenario's steps, which is the one of a small scenario
abbrev pub last_step : Result Script Fault → Option Step
last_step (Ok script) = slice_get script.steps (length script.steps - 1)
last_step (Err fault) = None

abbrev pub thread_behind : Part → Part
thread_behind first = record { from = first.from + 1; to = first.to }

-- the step of a word of a thread with keys and values, which have to be plain
abbrev pub step_of_pairs : List ℕ → Part → Part → List Pair → Option Step
step_of_pairs line thread word pairs = if is_some (odd_key line pairs) then None else last_step (scenario_of None (small_text line word thread pairs))

abbrev pub step_of_call : List ℕ → Part → Part → List Part → Option Step
step_of_call line thread word rest = if is_some (odd_word line rest) then None else step_of_pairs line thread word (pairs_of line rest)

abbrev pub begins_thread : List ℕ → Part → Bool
begins_thread line first = slice_index_or line first.from 0 == 84

-- the first word has to be a thread
abbrev pub step_of_thread : List ℕ → Part → Part → List Part → Option Step
step_of_thread line first word rest = if begins_thread line first then step_of_call line (thread_behind first) word rest else None

-- the next one is that of its call
abbrev pub step_of_words : List ℕ → List Part → Option Step
step_of_words line [] = None
step_of_words line (first ∷ []) = None
step_of_words line (first ∷ word ∷ rest) = step_of_thread line first word rest

-- the step that a line without quotes asks for, by the words that are said
abbrev pub step_of_said : List ℕ → List Part → Option Step
step_of_said line words = if has_odd line words then None else step_of_words line (past_number line words)

unfoldable pub step_of_plain : List ℕ → Option Step
step_of_plain line = step_of_said line (said_words line)

-- rule: A line's step, if any, is a function of its bytes: the last step of the small scenario that its words make up
--   to a comment or an arrow. A number before the thread, and quotes, say nothing.
--   clauses: read_step_line
--   rows: lines_are_answered; lines_mean_scenarios
-- the step that a line asks for, if it can be read
abbrev pub step_of_line : List ℕ → Option Step
step_of_line line = step_of_plain (unquoted line)

-- what was heard
abbrev pub heard_step : Heard → Option Step
heard_step (Asked step) = Some step
heard_step (NotRead unread) = None

-- why a line can't be read, as it is reported
abbrev pub unread_text : Unread → List ℕ
unread_text unread = codes "! " ++ (decimal unread.column ++ (codes ": " ++ (string_bytes unread.words ++ line_feed)))

-- ---- for private clauses

-- what one more byte makes of a word that has begun or not: whether it is a space
abbrev pub begun_then : Option ℕ → ℕ → Bool → Option ℕ
begun_then None at space = if space then None else Some at
begun_then (Some from) at space = if space then None else Some from

-- the word that it ends
abbrev pub ended_word : Option ℕ → ℕ → Bool → List Part
ended_word None at space = []
ended_word (Some from) at space = if space then record { from = from; to = at } ∷ [] else []

abbrev pub word_on : ℕ → ℕ → List (List ℕ) → List Part
word_on from at [] = []
word_on from at (piece ∷ rest) = record { from = from; to = at + length piece } ∷ filter has_bytes (pieces_from (at + length piece + 1) rest)

-- the words that are left of a line from a byte on, where one has begun before or not
abbrev pub left_pieces : Option ℕ → ℕ → List (List ℕ) → List Part
left_pieces None at pieces = filter has_bytes (pieces_from at pieces)
left_pieces (Some from) at pieces = word_on from at pieces

abbrev pub left_words : Option ℕ → ℕ → List ℕ → List Part
left_words begun at line = left_pieces begun at (slice_split (λ c. c == 32) line)

-- the value of a pair goes up to a byte
abbrev pub up_to : ℕ → Pair → Pair
up_to to pair = record { key = pair.key; value = record { from = pair.value.from; to = to } }

-- that of the last of some pairs
abbrev pub lengthened : ℕ → List Pair → List Pair
lengthened to [] = []
lengthened to (pair ∷ []) = up_to to pair ∷ []
lengthened to (pair ∷ next ∷ others) = pair ∷ lengthened to (next ∷ others)

-- pairs with those of the words after them, up to the first key of which the value of the last one goes
abbrev pub with_rest : List ℕ → List Pair → List Part → List Pair
with_rest line [] rest = pairs_of line rest
with_rest line (pair ∷ []) rest = up_to (value_end line pair.value.to rest) pair ∷ pairs_of line rest
with_rest line (pair ∷ next ∷ others) rest = pair ∷ with_rest line (next ∷ others) rest
