-- The keys `expect` of a text of tables: what its steps are expected to be answered, and the scenario without them.
use Rattle.std.specs.Prelude.{◌≡◌, ℕ, ◌+◌, ◌==◌, nat_le, Bool, not, ◌&&◌, ◌||◌, List, [], ◌∷◌, ◌++◌, codes, count_by, drop, find, flat_map, length, map, slice_index_or, string_bytes, take, if◌then◌else◌, Option, Some, None, Result, Ok, Err}
use Rattle.std.specs.List.{list_all, prefix_len}
use Rattle.std.specs.Str.{bytes_eq}
use Rattle.lab_faults.specs.Keys.{text_keys}
use Rattle.lab_faults.specs.Steps.{as_text, bytes_between, is_within, number_of, unquoted}
use Rattle.lab_faults.specs.declared.items.Item.{Item}
use Rattle.lab_lines.specs.Lines.{is_odd}
use Rattle.lab_lines.specs.declared.tables.ExpectFault.{ExpectFault}
use Rattle.lab_lines.specs.declared.tables.ExpectFault.TheVariants as fault
use Rattle.lab_lines.specs.declared.tables.Expected.{Expected}

-- a line says that a step is answered so; both count from 1
pub record Expects : Type 0 where
  pub line : ℕ
  pub step : ℕ
  pub answer : List ℕ

abbrev pub expects_in : Expected → Expects
expects_in e = record { line = e.line; step = e.step; answer = string_bytes e.answer }

-- ---- its keys

-- the keys of a text; one that is longer is no scenario
abbrev pub keys_of : List ℕ → List Item
keys_of text = if nat_le (length text) 1048576 then text_keys text else []

-- the step in which a key is, 0 of none
abbrev pub number_in : Item → ℕ
number_in item = number_of item.section

-- a key `expect` that is in a step
abbrev pub is_expect : List ℕ → Item → Bool
is_expect text item =
    bytes_eq (unquoted (bytes_between text item.key)) (codes "expect") && not (number_in item == 0)

-- a byte that can be in an answer: none of the quotes, and none that can't be in a line
abbrev pub is_answer_byte : ℕ → Bool
is_answer_byte byte = not (is_odd byte || (byte == 34 || byte == 39))

abbrev pub is_quoted : List ℕ → Bool
is_quoted value = is_within 34 value || is_within 39 value

-- a value that is an answer: such bytes in quotes
abbrev pub is_answer : List ℕ → Bool
is_answer value = is_quoted value && list_all is_answer_byte (unquoted value)

-- one that is expected and can be none
abbrev pub is_unfit : List ℕ → Item → Bool
is_unfit text item = is_expect text item && not (is_answer (bytes_between text item.value))

-- how many lines end in some bytes
abbrev pub ends_in : List ℕ → ℕ
ends_in bytes = count_by (λ byte. byte == 10) bytes

-- the line of a byte
unfoldable pub line_at : List ℕ → ℕ → ℕ
line_at text at = 1 + ends_in (take at text)

abbrev pub item_expects : List ℕ → Item → List Expects
item_expects text item =
    if is_expect text item
    then record { line = line_at text item.key.0; step = number_in item; answer = as_text (unquoted (bytes_between text item.value)) } ∷ []
    else []

-- what a text of tables expects; or the line and the step of the first `expect` that has no answer
abbrev pub expects_unless : List ℕ → Option Item → Result (List Expects) (ℕ × ℕ)
expects_unless text None = Ok (flat_map (item_expects text) (keys_of text))
expects_unless text (Some item) = Err (line_at text item.key.0, number_in item)

abbrev pub expects_of_tables : List ℕ → Result (List Expects) (ℕ × ℕ)
expects_of_tables text = expects_unless text (find (is_unfit text) (keys_of text))

abbrev pub IsFaultOf : Result (List Expects) (ℕ × ℕ) → ExpectFault → Type 0
IsFaultOf read (fault.NoAnswer line step) = read ≡ Err (line, step)
IsFaultOf read fault.Memory = Unit {0}

-- ---- the scenario in it

abbrev pub blank_byte : ℕ → ℕ
blank_byte byte = if byte == 10 then 10 else 32

-- a blank, or the end of a line
abbrev pub is_white : ℕ → Bool
is_white byte = byte == 32 || (byte == 9 || (byte == 13 || byte == 10))

-- a text from a byte on
abbrev pub rest_of : List ℕ → ℕ → List ℕ
rest_of text at = drop at text

-- the end of what is from a byte on up to a comma, with it, where only white bytes are before that; or else that byte
abbrev pub comma_end : ℕ → List ℕ → ℕ → ℕ
comma_end at rest white = if slice_index_or rest white 0 == 44 then at + white + 1 else at

abbrev pub past_comma : List ℕ → ℕ → ℕ
past_comma text at = comma_end at (rest_of text at) (prefix_len is_white (rest_of text at))

-- blanks in place of some bytes, but for the ends of lines
abbrev pub blanks : List ℕ → ℕ → ℕ → List ℕ
blanks text from to = map blank_byte (bytes_between text (from, to))

-- a text from a byte on, with blanks in place of each key `expect`, its value, and the comma after it
abbrev pub blanked_from : List ℕ → ℕ → List Item → List ℕ
blanked_from text at [] = drop at text
blanked_from text at (item ∷ rest) =
    if is_expect text item
    then bytes_between text (at, item.key.0)
    ++ (blanks text item.key.0 (past_comma text item.value.1) ++ blanked_from text (past_comma text item.value.1) rest)
    else blanked_from text at rest

-- the scenario in a text of tables, each byte at its place
unfoldable pub unexpecting : List ℕ → List ℕ
unexpecting text = blanked_from text 0 (keys_of text)
