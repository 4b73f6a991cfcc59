-- The answers that a text expects of its steps.
use Rattle.std.specs.Prelude.{ℕ, ◌+◌, ◌-◌, ◌==◌, Bool, true, false, not, ◌||◌, List, [], ◌∷◌, ◌++◌, codes, drop, length, position, slice_get, slice_index_or, if◌then◌else◌, Option, Some, None, Result, Ok, Err}
use Rattle.std.specs.Str.{bytes_eq}
use Rattle.std.specs.Str.Lines.{lines}
use Rattle.lab_faults.specs.Steps.{as_text}
use Rattle.lab_lines.specs.Kinds.{is_lines}
use Rattle.lab_lines.specs.Lines.{bytes_at, ends_said, said_words, unquoted, up_to_word, words_of}
use Rattle.lab_lines.specs.Tables.{Expects, expects_of_tables}
use Rattle.lab_lines.specs.Texts.{is_play, is_word}
use Rattle.lab_lines.specs.declared.places.Part.{Part}

-- ---- a text of lines: after a call an arrow and an answer

abbrev pub is_comment : List ℕ → Part → Bool
is_comment line word = slice_index_or (bytes_at line word) 0 0 == 35

-- the words after an arrow, if these begin with one
abbrev pub behind_arrow : List ℕ → List Part → List Part
behind_arrow line [] = []
behind_arrow line (first ∷ rest) = if bytes_eq (bytes_at line first) (codes "->") then rest else []

-- the words from one on
abbrev pub from_word : List Part → Option ℕ → List Part
from_word words None = []
from_word words (Some at) = drop at words

-- the words of the answer: those after the arrow, up to a comment
abbrev pub before_comment : List ℕ → List Part → List Part
before_comment line words = up_to_word words (position (is_comment line) words)

abbrev pub answer_words : List ℕ → List Part → List Part
answer_words line words = before_comment line (behind_arrow line (from_word words (position (ends_said line) words)))

-- what is from the first of some words to the end of the last
abbrev pub spanned_by : List ℕ → Option Part → Option Part → List ℕ
spanned_by line (Some first) (Some last) = bytes_at line (record { from = first.from; to = last.to })
spanned_by line _ _ = []

abbrev pub spanned : List ℕ → List Part → List ℕ
spanned line words = spanned_by line (slice_get words 0) (slice_get words (length words - 1))

-- the answer that a line without quotes expects; none of no bytes
unfoldable pub answer_of : List ℕ → List ℕ
answer_of line = as_text (spanned line (answer_words line (words_of line)))

-- by its first word a line asks for a step, which is set up or not
abbrev pub asks_by : List ℕ → Part → Option Bool
asks_by line first =
    if is_word line first (codes "board") || is_word line first (codes "limit") then None else Some (is_word line first (codes "setup"))

-- but for a play of a trace
abbrev pub asks_said : List ℕ → List Part → Option Bool
asks_said line [] = None
asks_said line (first ∷ rest) = if is_play line (first ∷ rest) then None else asks_by line first

unfoldable pub asks : List ℕ → Option Bool
asks line = asks_said line (said_words line)

-- whether a line without quotes asks for a step of one of the two kinds
abbrev pub is_of : Bool → Option Bool → Bool
is_of setup None = false
is_of true (Some kind) = kind
is_of false (Some kind) = not kind

-- what is expected of the step of this number by the line of that number; nothing by no bytes
abbrev pub expected_at : ℕ → ℕ → List ℕ → List Expects
expected_at number step answer =
    if length answer == 0 then [] else record { line = number; step = step; answer = answer } ∷ []

abbrev pub line_expects : Bool → ℕ → ℕ → List ℕ → List Expects
line_expects setup step number line =
    if is_of setup (asks (unquoted line)) then expected_at number step (answer_of (unquoted line)) else []

-- the number of the next step after a line
abbrev pub next_step : Bool → ℕ → List ℕ → ℕ
next_step setup step line = if is_of setup (asks (unquoted line)) then step + 1 else step

-- the same, of lines that begin with this number
abbrev pub lines_expect : Bool → ℕ → ℕ → List (List ℕ) → List Expects
lines_expect setup step number [] = []
lines_expect setup step number (line ∷ rest) =
    line_expects setup step number line ++ lines_expect setup (next_step setup step line) (number + 1) rest

abbrev pub step_behind : Bool → ℕ → List (List ℕ) → ℕ
step_behind setup step [] = step
step_behind setup step (line ∷ rest) = step_behind setup (next_step setup step line) rest

-- first the steps that are set up, then the others, as in its scenario
abbrev pub expects_of_lines : List (List ℕ) → List Expects
expects_of_lines all = lines_expect true 1 1 all ++ lines_expect false (step_behind true 1 all) 1 all

-- ---- a text

-- rule: A text's expected answers are a function of its bytes: for each step at most an answer per key `expect`, or the
--   text from the arrow up to a comment, with its line; first of the steps that are set up. It is refused only for the
--   first `expect` whose value is no answer in quotes, with its line and step, or for want of memory.
--   also: Tables.IsFaultOf
--   clauses: read_expected: read, refused
--   rows: an_answer_stands_in_quotes; answers_are_expected
-- what a text expects; or the line and the step of the first `expect` that has no answer
abbrev pub expects_of : List ℕ → Result (List Expects) (ℕ × ℕ)
expects_of text = if is_lines text then Ok (expects_of_lines (lines text)) else expects_of_tables text
