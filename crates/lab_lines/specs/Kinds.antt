-- Which texts are texts of lines, and the scenario that one means.
use Rattle.std.specs.Prelude.{◌≡◌, ◌⊎◌, ℕ, ◌-◌, ◌==◌, nat_lt, Bool, true, false, not, ◌&&◌, ◌||◌, List, [], ◌∷◌, ◌++◌, codes, drop, length, if◌then◌else◌, Option, Some, None, slice_index_or, string_bytes, unwrap_or}
use Rattle.std.specs.List.{list_all}
use Rattle.std.specs.Str.{bytes_eq, is_utf8}
use Rattle.std.specs.Str.Lines.{lines}
use Rattle.evl_scenario.specs.Lines.{line_feed}
use Rattle.lab_lines.specs.Lines.{bytes_at, is_digit, is_number, said_words}
use Rattle.lab_lines.specs.Tables.{unexpecting}
use Rattle.lab_lines.specs.Texts.{IsRefused, Means}
use Rattle.lab_lines.specs.declared.places.Part.{Part}
use Rattle.lab_lines.specs.declared.texts.LinesFault.{LinesFault}
use Rattle.lab_lines.specs.declared.texts.LinesFault.TheVariants as fault
use Rattle.lab_lines.specs.declared.texts.Meant.{Meant}

-- ---- its first line

-- T and digits
abbrev pub is_thread : List ℕ → Bool
is_thread word = slice_index_or word 0 0 == 84 && (nat_lt 1 (length word) && list_all is_digit (drop 1 word))

abbrev pub is_head : List ℕ → Bool
is_head word = bytes_eq word (codes "board") || (bytes_eq word (codes "limit") || bytes_eq word (codes "setup"))

-- the first of some words begins with an equals sign, as after a key of a scenario
abbrev pub is_given : List ℕ → List Part → Bool
is_given line [] = false
is_given line (first ∷ rest) = slice_index_or (bytes_at line first) 0 0 == 61

-- the first of some words is a thread
abbrev pub is_called : List ℕ → List Part → Bool
is_called line [] = false
is_called line (first ∷ rest) = is_thread (bytes_at line first)

-- a line of a text of lines: a thread, or a number before one; or the board, the limit or a step that is set up
abbrev pub is_first : List ℕ → Part → List Part → Bool
is_first line first rest =
    is_thread (bytes_at line first)
    || ((is_number (bytes_at line first) && is_called line rest) || (is_head (bytes_at line first) && not (is_given line rest)))

-- of a line that says something
abbrev pub is_first_of : List ℕ → List Part → Option Bool
is_first_of line [] = None
is_first_of line (first ∷ rest) = Some (is_first line first rest)

-- by the first of some lines that says something
abbrev pub begin_said : List (List ℕ) → Bool
begin_said [] = false
begin_said (line ∷ rest) = unwrap_or (is_first_of line (said_words line)) (begin_said rest)

-- rule: Whether a text is one of lines is a function of its first line that says something. One that can be read is
--   taken for its scenario or text of callers, with as many first steps set up as it says; one that cannot is refused
--   for its fault; any other text for itself, with blanks for each key `expect` of a step, its value and a comma after
--   it.
--   also: Kinds.{IsPlain, IsOfCallers, IsUnread}; Tables.unexpecting
--   clauses: is_lines; plain_text: plain, unread; callers_text: plain, unread
--   rows: the_first_line_tells_the_kind; steps_that_are_set_up_have_their_heading
-- a text is one of lines
unfoldable pub is_lines : List ℕ → Bool
is_lines text = is_utf8 text && begin_said (lines text)

-- ---- its scenario

-- A text is one of lines that can be read, with this scenario.
pub record IsRead (text : List ℕ) (meant : Meant) : Type 0 where
  pub is : is_lines text ≡ true
  pub means : Means text meant

-- A text of lines that can be read means its scenario, a text that is none of lines the scenario in it.
abbrev pub IsPlain : List ℕ → List ℕ → Type 0
IsPlain text plain = ((is_lines text ≡ false) × (plain ≡ unexpecting text)) ⊎ ((meant : Meant) × IsRead text meant × (plain ≡ string_bytes meant.scenario))

-- A text of lines that can't be read means nothing.
abbrev pub IsUnread : List ℕ → LinesFault → Type 0
IsUnread text e = (e ≡ fault.Memory) ⊎ ((is_lines text ≡ true) × IsRefused text e)

-- ---- its callers

-- a line where so many steps are still to be set up, and how many are after it
abbrev pub is_set_up : ℕ → List ℕ → Bool
is_set_up left line = nat_lt 0 left && bytes_eq line (codes "[[step]]")

abbrev pub line_set_up : ℕ → List ℕ → List ℕ
line_set_up left line = if is_set_up left line then codes "[[setup]]" else line

abbrev pub left_behind : ℕ → List ℕ → ℕ
left_behind left line = if is_set_up left line then left - 1 else left

-- lines of which the first steps, so many, are set up
abbrev pub set_up : ℕ → List (List ℕ) → List ℕ
set_up left [] = []
set_up left (line ∷ rest) = (line_set_up left line ++ line_feed) ++ set_up (left_behind left line) rest

-- the text of callers: the scenario, whose steps that are set up have that for their heading
abbrev pub callers_text : Meant → List ℕ
callers_text meant = set_up meant.setup (lines (string_bytes meant.scenario))

-- For callers a text of lines that can be read means its text of callers.
abbrev pub IsOfCallers : List ℕ → List ℕ → Type 0
IsOfCallers text plain = ((is_lines text ≡ false) × (plain ≡ text)) ⊎ ((meant : Meant) × IsRead text meant × (plain ≡ callers_text meant))
