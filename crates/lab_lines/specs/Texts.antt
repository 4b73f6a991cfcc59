-- All that a text of lines says, and the scenario that it is.
use Rattle.std.specs.Prelude.{◌≡◌, ◌⊎◌, ℕ, ◌+◌, nat_le, Bool, true, false, ◌&&◌, ◌||◌, List, [], ◌∷◌, ◌++◌, codes, length, map, string_bytes, if◌then◌else◌, Option, Some, None, is_some, unwrap_or, Result, Ok, Err}
use Rattle.std.specs.Str.{bytes_eq, is_utf8}
use Rattle.std.specs.Str.Lines.{lines}
use Rattle.evl_base.specs.declared.board.Board.{Board}
use Rattle.evl_base.specs.declared.entry.Entry.{Entry}
use Rattle.evl_scenario.specs.Scenarios.{Script, scenario_of}
use Rattle.evl_scenario.specs.Writings.{IsUnwritten, scenario_text, step_of_entry}
use Rattle.evl_scenario.specs.declared.faults.Fault.{Fault}
use Rattle.evl_scenario.specs.declared.steps.Step.{Step}
use Rattle.evl_scenario.specs.declared.writing.Unwritten.TheVariants as unwritten
use Rattle.lab_lines.specs.Boards.{board_text, limit_text}
use Rattle.lab_lines.specs.Lines.{bytes_at, has_odd, odd_key, odd_word, pairs_of, past_number, said_words, step_of_words, unquoted}
use Rattle.lab_lines.specs.declared.lines.Unread.{Unread}
use Rattle.lab_lines.specs.declared.places.Pair.{Pair}
use Rattle.lab_lines.specs.declared.places.Part.{Part}
use Rattle.lab_lines.specs.declared.says.Says.{Says}
use Rattle.lab_lines.specs.declared.says.Says.TheVariants as says
use Rattle.lab_lines.specs.declared.texts.Gathering.{Gathering}
use Rattle.lab_lines.specs.declared.texts.LinesFault.{LinesFault}
use Rattle.lab_lines.specs.declared.texts.LinesFault.TheVariants as fault
use Rattle.lab_lines.specs.declared.texts.Meant.{Meant}

-- ---- a line

-- what a line says: nothing, the board and its limit, a limit, a step that is set up, a step; or it can't be read
pub data Said : Type 0 where
  nothing : Said
  board : Board → ℕ → Said
  limit : ℕ → Said
  setup : Step → Said
  step : Step → Said
  unread : Said

abbrev pub said_in : Says → Said
said_in says.Nothing = nothing
said_in (says.Board b l) = board b l
said_in (says.Limit l) = limit l
said_in (says.Setup s) = setup s
said_in (says.Step s) = step s
said_in (says.Unread u) = unread

-- a board and a limit are those of the small scenario
abbrev pub opened_board : Result Script Fault → Said
opened_board (Ok script) = board script.board script.limit
opened_board (Err e) = unread

abbrev pub opened_limit : Result Script Fault → Said
opened_limit (Ok script) = limit script.limit
opened_limit (Err e) = unread

abbrev pub board_of_pairs : List ℕ → List Pair → Said
board_of_pairs line pairs = if is_some (odd_key line pairs) then unread else opened_board (scenario_of None (board_text line pairs))

-- the words after `board` are keys with values
abbrev pub board_said : List ℕ → List Part → Said
board_said line rest = if is_some (odd_word line rest) then unread else board_of_pairs line (pairs_of line rest)

-- after `limit` is one word
abbrev pub limit_said : List ℕ → List Part → Said
limit_said line (value ∷ []) = opened_limit (scenario_of None (limit_text (bytes_at line value)))
limit_said line _ = unread

-- the step of a call, or that it can't be read
abbrev pub said_as : (Step → Said) → Option Step → Said
said_as kind None = unread
said_as kind (Some s) = kind s

abbrev pub is_word : List ℕ → Part → List ℕ → Bool
is_word line word text = bytes_eq (bytes_at line word) text

-- the first word says what kind of line it is
abbrev pub said_by : List ℕ → List Part → Said
said_by line [] = nothing
said_by line (first ∷ rest) =
    if is_word line first (codes "board") then board_said line rest
    else if is_word line first (codes "limit") then limit_said line rest
    else if is_word line first (codes "setup") then said_as setup (step_of_words line rest)
    else said_as step (step_of_words line (past_number line (first ∷ rest)))

-- a play of a trace: after two blanks one of these words
abbrev pub is_play : List ℕ → List Part → Bool
is_play line [] = false
is_play line (first ∷ rest) =
    nat_le 2 first.from
    && (is_word line first (codes "line") || (is_word line first (codes "clock") || (is_word line first (codes "timer") || is_word line first (codes "deadline"))))

-- by the words that are said
abbrev pub said_of_words : List ℕ → List Part → Said
said_of_words line words = if is_play line words then nothing else if has_odd line words then unread else said_by line words

unfoldable pub said_of_plain : List ℕ → Said
said_of_plain line = said_of_words line (said_words line)

-- what a line says, without its quotes
abbrev pub said_of : List ℕ → Said
said_of line = said_of_plain (unquoted line)

-- ---- its lines

-- what lines have said
pub record Gathered : Type 0 where
  pub opening : Option (Board × ℕ)
  pub limit : Option ℕ
  pub setup : List Step
  pub steps : List Step

abbrev pub nothing_said : Gathered
nothing_said = record { opening = None; limit = None; setup = []; steps = [] }

-- with what one line more says; none where that can't be read, or where it is the board or the limit once more
abbrev pub with_said : Gathered → Said → Option Gathered
with_said g nothing = Some g
with_said g (board b l) = if is_some g.opening then None else Some (record { opening = Some (b, l); limit = g.limit; setup = g.setup; steps = g.steps })
with_said g (limit l) = if is_some g.limit then None else Some (record { opening = g.opening; limit = Some l; setup = g.setup; steps = g.steps })
with_said g (setup s) = Some (record { opening = g.opening; limit = g.limit; setup = g.setup ++ s ∷ []; steps = g.steps })
with_said g (step s) = Some (record { opening = g.opening; limit = g.limit; setup = g.setup; steps = g.steps ++ s ∷ [] })
with_said g unread = None

abbrev pub and_then : {A B : Type 0} → ℕ → (A → Result B ℕ) → Option A → Result B ℕ
and_then number go None = Err number
and_then number go (Some x) = go x

-- what lines say, of which the first has this number, after what was said; or the number of the first that can't be added
abbrev pub gathered : ℕ → Gathered → List (List ℕ) → Result Gathered ℕ
gathered number g [] = Ok g
gathered number g (line ∷ rest) = and_then number (λ next. gathered (number + 1) next rest) (with_said g (said_of line))

-- ---- the scenario

-- its board, the limit that has a line of its own or else the board's, and first the steps that are set up
abbrev pub script_with : Gathered → Board × ℕ → Script
script_with g opening = record { board = opening.0; limit = unwrap_or g.limit opening.1; steps = g.setup ++ g.steps }

-- a text is that of a scenario, is read as just that, and so many of its steps are set up
pub record MeansAs (script : Script) (setup : ℕ) (meant : Meant) : Type 0 where
  pub text : string_bytes meant.scenario ≡ scenario_text script
  pub reads : scenario_of None (string_bytes meant.scenario) ≡ Ok script
  pub setup_is : meant.setup ≡ setup

-- of what lines have said
pub record MeansSaid (g : Gathered) (meant : Meant) : Type 0 where
  pub opening : Board × ℕ
  pub opens : g.opening ≡ Some opening
  pub means : MeansAs (script_with g opening) (length g.setup) meant

-- of lines
pub record MeansLines (all : List (List ℕ)) (meant : Meant) : Type 0 where
  pub said : Gathered
  pub gathers : gathered 1 nothing_said all ≡ Ok said
  pub means : MeansSaid said meant

-- rule: A text of lines means the board of one line, the limit of a line `limit`, else of the board's line, and its
--   steps, those set up first. The scenario written of it is read as exactly this. A number for a list means so many
--   plain elements.
--   also: Texts.said_of; Boards.board_text
--   clauses: read_lines: means
--   rows: lines_mean_scenarios; steps_that_are_set_up_have_their_heading
-- of a text of lines: each of them can be read
pub record Means (text : List ℕ) (meant : Meant) : Type 0 where
  pub is_text : is_utf8 text ≡ true
  pub means : MeansLines (lines text) meant

-- ---- why there is none

-- a fault of this line
abbrev pub IsAt : ℕ → LinesFault → Type 0
IsAt number e = (u : Unread) × (e ≡ fault.Line number u)

-- no scenario has this board and limit; or it would be too long
abbrev pub IsUnwrittenAs : Script → LinesFault → Type 0
IsUnwrittenAs script e =
    (e ≡ fault.Memory)
    ⊎ (((e ≡ fault.Board) × (IsUnwritten unwritten.Board script ⊎ IsUnwritten unwritten.Limit script))
    ⊎ ((e ≡ fault.TooLong) × IsUnwritten unwritten.TooLong script))

-- or nothing that was said is a board
abbrev pub IsUnsaid : Gathered → LinesFault → Type 0
IsUnsaid g e =
    (e ≡ fault.Memory)
    ⊎ (((e ≡ fault.Board) × (g.opening ≡ None))
    ⊎ ((opening : Board × ℕ) × (g.opening ≡ Some opening) × IsUnwrittenAs (script_with g opening) e))

-- or a line can't be read, the first of which is named
abbrev pub IsRefusedLines : List (List ℕ) → LinesFault → Type 0
IsRefusedLines all e =
    (e ≡ fault.Memory)
    ⊎ (((number : ℕ) × IsAt number e × (gathered 1 nothing_said all ≡ Err number))
    ⊎ ((said : Gathered) × (gathered 1 nothing_said all ≡ Ok said) × IsUnsaid said e))

-- rule: A text of lines is refused only if it is not UTF-8, for its first line that cannot be read or says board or
--   limit again (with its number), if no line says a board that a scenario can have, if the scenario would be too long,
--   or for want of memory.
--   clauses: read_lines: refused
--   rows: lines_are_refused_at_their_places; lines_need_a_board
-- or the bytes are no UTF-8
abbrev pub IsRefused : List ℕ → LinesFault → Type 0
IsRefused text e = ((e ≡ fault.Text) × (is_utf8 text ≡ false)) ⊎ ((is_utf8 text ≡ true) × IsRefusedLines (lines text) e)

-- ---- for private clauses

abbrev pub gathered_in : Gathering → Gathered
gathered_in g = record {
  opening = g.opening;
  limit = g.limit;
  setup = map step_of_entry g.setup.items;
  steps = map step_of_entry g.steps.items;
}

abbrev pub scripted : Board × ℕ → Option ℕ → List Entry → List Entry → Script
scripted opening own first others =
    record { board = opening.0; limit = unwrap_or own opening.1; steps = map step_of_entry first ++ map step_of_entry others }
