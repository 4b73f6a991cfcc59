-- All that `lab convert` prints, and the faults of a text of lines.
use Rattle.std.specs.Prelude.{◌≡◌, ◌⊎◌, ℕ, List, ◌++◌, codes, decimal, string_bytes, Bool, true, false, not, nat_lt, MatchBool, Option, Some, None, IsSomeAnd, Ok}
use Rattle.evl_scenario.specs.Lines.{line_feed}
use Rattle.evl_scenario.specs.Scenarios.{Script, scenario_of}
use Rattle.evl_scenario.specs.declared.writing.Unwritten.TheVariants as unwritten
use Rattle.lab_kinds.specs.Kinds.{kind_of}
use Rattle.lab_kinds.specs.declared.kinds.TextKind.{TextKind}
use Rattle.lab_lines.specs.Kinds.{IsRead, IsUnread, is_lines}
use Rattle.lab_lines.specs.Tables.{unexpecting}
use Rattle.lab_lines.specs.Writings.{IsTables, IsUnlined, IsWritten}
use Rattle.lab_lines.specs.declared.texts.LinesFault.{LinesFault}
use Rattle.lab_lines.specs.declared.texts.LinesFault.TheVariants as fault
use Rattle.lab_lines.specs.declared.texts.Meant.{Meant}
use Rattle.lab_lines.specs.declared.writing.Unlined.{Unlined}
use Rattle.lab_lines.specs.declared.writing.Unlined.TheVariants as unlined
use Rattle.lab_streams.specs.Endings.{kinded_words, line_about}
use Rattle.lab_streams.specs.Outputs.{OfRead, Output, prints, refuses}
use Rattle.lab_streams.specs.Readings.{Reading}
use Rattle.lab_streams.specs.declared.words.Converting.{Converting}

-- ---- a fault of a text of lines

-- the line, the byte, and what was wanted there, as the faults of a scenario are reported
abbrev pub place_line : List ℕ → ℕ → ℕ → List ℕ → List ℕ
place_line name line column words =
    name ++ (codes ":" ++ (decimal line ++ (codes ":" ++ (decimal column ++ (codes ": " ++ (words ++ line_feed))))))

-- of want of memory there is none
abbrev pub place_text : List ℕ → LinesFault → Option (List ℕ)
place_text name fault.Text = Some (place_line name 1 1 (codes "a text in UTF-8 is wanted"))
place_text name (fault.Line line unread) = Some (place_line name line unread.column (string_bytes unread.words))
place_text name fault.Board = Some (place_line name 1 1 (codes "a line with the board is wanted, as board threads=2 sems=[0]"))
place_text name fault.TooLong = Some (place_line name 1 1 (codes "a scenario of at most 1048576 bytes is wanted"))
place_text name fault.Memory = None

-- rule: A text of lines that cannot be read is refused by `check`, `play`, `draw`, `live`, `orders` and `convert` with
--   one line, FILE:LINE:BYTE: what is wanted (FILE is `lab` at `draw` and `live`). The line is the first that cannot be
--   read.
--   also: Lines.place_text
--   clauses: tell_place; play_given; drive_given; tell_given
-- of a text of lines that can't be read just that is said
abbrev pub SaysUnread : List ℕ → List ℕ → List ℕ → Type 0
SaysUnread name text said = (e : LinesFault) × IsUnread text e × IsSomeAnd (place_text name e) (λ line. said ≡ line)

-- ---- `lab convert`

-- a text is a scenario as lines, or with a table for each step, and is read as just this board, limit and steps
abbrev pub IsForm : Bool → Script → List ℕ → Type 0
IsForm true script text = IsWritten script text
IsForm false script text = IsTables script text

-- why it isn't written; of a text of another kind, for which part it is
abbrev pub unlined_words : TextKind → Unlined → Option (List ℕ)
unlined_words kind (unlined.Scenario f) = kinded_words kind f
unlined_words kind (unlined.Unwritten unwritten.Memory) = None
unlined_words kind (unlined.Unwritten unwritten.TooLong) = Some (codes "more than 1048576 bytes")
unlined_words kind (unlined.Unwritten unwritten.Board) = Some (codes "no scenario has this board or limit")
unlined_words kind (unlined.Unwritten unwritten.Limit) = Some (codes "no scenario has this board or limit")
unlined_words kind unlined.Unlike = Some (codes "its lines would mean something else")

-- A scenario is printed in this form, or why it isn't is said.
abbrev pub Converts : Bool → List ℕ → List ℕ → Output → Type 0
Converts as_lines name text output =
    ((script : Script) × (form : List ℕ) × (scenario_of None text ≡ Ok script) × IsForm as_lines script form × (output ≡ prints form))
    ⊎ ((e : Unlined) × IsUnlined (scenario_of None text) e
    × IsSomeAnd (unlined_words (kind_of text) e) (λ words. output ≡ refuses 2 (line_about name words)))

-- of lines in which a step is set up neither form says that: they are for `lab orders`
abbrev pub set_up_words : List ℕ
set_up_words = codes "has a line with setup: a text for lab orders"

abbrev pub ConvertsMeant : Bool → List ℕ → Meant → Output → Type 0
ConvertsMeant as_lines name meant output =
    MatchBool (nat_lt 0 meant.setup) (output ≡ refuses 2 (line_about name set_up_words)) (Converts as_lines name (string_bytes meant.scenario) output)

-- A text of lines is printed as a scenario, unless lines are asked for, and the scenario in any other text as lines, unless a
-- scenario is. Their expected answers are left out.
abbrev pub ConvertsText : Converting → List ℕ → List ℕ → Output → Type 0
ConvertsText asked name text output =
    ((is_lines text ≡ false) × Converts (not asked.toml) name (unexpecting text) output)
    ⊎ (((meant : Meant) × IsRead text meant × ConvertsMeant asked.lines name meant output)
    ⊎ ((said : List ℕ) × SaysUnread name text said × (output ≡ refuses 2 said)))

-- rule: `lab convert` prints a text of lines as the scenario that it means, any other scenario, without what it
--   expects, as the text of lines that means it, unless the other form is asked for; either is read as exactly its
--   board, limit and steps. With 2 it says why the text is refused (one in which steps are set up too), or why it is
--   not written.
--   also: Lines.{ConvertsText, ConvertsMeant, Converts, IsForm}
--   clauses: convert; convert_text; converting_of
-- of a file, by what was read of it
abbrev pub ConvertsRead : Converting → List ℕ → Reading → Output → Type 0
ConvertsRead asked name = OfRead (ConvertsText asked name) name
