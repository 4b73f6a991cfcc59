-- The line of a board and the line of a limit as the small scenarios that they mean.
use Rattle.std.specs.Prelude.{ℕ, zero, suc, ◌==◌, nat_le, Bool, ◌||◌, List, [], ◌++◌, codes, flat_map, length, if◌then◌else◌, Option, Some, None, option_and_then}
use Rattle.std.specs.List.{slice_split}
use Rattle.std.specs.Str.{bytes_eq, is_utf8, trim}
use Rattle.evl_scenario.specs.Lines.{line_feed}
use Rattle.evl_scenario.specs.Values.{text_number}
use Rattle.lab_lines.specs.Lines.{bare_line, bytes_at, quoted_line, without}
use Rattle.lab_lines.specs.declared.places.Pair.{Pair}

-- ---- a list

-- a text, if the bytes are one
abbrev pub text_in : List ℕ → List ℕ
text_in bytes = if is_utf8 bytes then bytes else []

abbrev pub few : ℕ → Option ℕ
few count = if nat_le count 64 then Some count else None

-- a number in place of a list, as the first line of a trace has it: how many elements there are
abbrev pub count_of : List ℕ → Option ℕ
count_of value = option_and_then few (text_number (text_in value))

-- what each of so many elements is: a semaphore or a flag group of 0, a cross-buffer with two rings of 256 bytes, a mutex
-- without a ceiling, a quota group with all of the processor
abbrev pub plain_item : List ℕ → List ℕ
plain_item key =
    if bytes_eq key (codes "xbufs") then codes "[256, 256], "
    else if bytes_eq key (codes "mutexes") then codes "\"normal\", "
    else if bytes_eq key (codes "groups") then codes "100, "
    else codes "0, "

-- so many times the same
abbrev pub repeated : ℕ → List ℕ → List ℕ
repeated zero item = []
repeated (suc count) item = repeated count item ++ item

abbrev pub count_line : List ℕ → ℕ → List ℕ
count_line key count = key ++ (codes " = [" ++ (repeated count (plain_item key) ++ codes "]\n"))

-- the kind of a mutex in quotes, without the spaces around it; nothing where there is none
abbrev pub kind_item : List ℕ → List ℕ
kind_item piece = if length (trim piece) == 0 then [] else codes "\"" ++ (trim piece ++ codes "\", ")

-- kinds between commas, in brackets or not
abbrev pub kinds_line : List ℕ → List ℕ → List ℕ
kinds_line key value = key ++ (codes " = [" ++ (flat_map kind_item (slice_split (λ b. b == 44) (text_in (without 91 93 value))) ++ codes "]\n"))

-- a list as it is, but for the kinds of mutexes
abbrev pub list_line : List ℕ → List ℕ → List ℕ
list_line key value = if bytes_eq key (codes "mutexes") then kinds_line key value else bare_line key value

abbrev pub listed_line : List ℕ → List ℕ → Option ℕ → List ℕ
listed_line key value None = list_line key value
listed_line key value (Some count) = count_line key count

-- ---- the board

abbrev pub is_list : List ℕ → Bool
is_list key =
    bytes_eq key (codes "sems") || (bytes_eq key (codes "flags") || (bytes_eq key (codes "xbufs") || (bytes_eq key (codes "mutexes") || bytes_eq key (codes "groups"))))

abbrev pub key_line : List ℕ → List ℕ → List ℕ
key_line key value = if is_list key then listed_line key value (count_of value) else quoted_line key value

abbrev pub is_limit : List ℕ → Bool
is_limit key = bytes_eq key (codes "limit")

-- the limit goes before the board, and each key of the line has a line in both parts
abbrev pub before_board : List ℕ → Pair → List ℕ
before_board line pair = if is_limit (bytes_at line pair.key) then quoted_line (bytes_at line pair.key) (bytes_at line pair.value) else line_feed

abbrev pub in_board : List ℕ → Pair → List ℕ
in_board line pair = if is_limit (bytes_at line pair.key) then line_feed else key_line (bytes_at line pair.key) (bytes_at line pair.value)

-- a scenario without steps, of the board and the limit with these keys
unfoldable pub board_text : List ℕ → List Pair → List ℕ
board_text line pairs = flat_map (before_board line) pairs ++ (codes "[board]\n" ++ flat_map (in_board line) pairs)

-- a scenario of this limit
abbrev pub limit_text : List ℕ → List ℕ
limit_text value = quoted_line (codes "limit") value ++ codes "[board]\nthreads = 1\n"
