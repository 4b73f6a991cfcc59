-- A scenario as a text of lines.
use Rattle.std.specs.Prelude.{◌≡◌, ◌≢◌, ◌⊎◌, ℕ, List, [], ◌∷◌, ◌++◌, codes, drop, flat_map, string_bytes, None, Result, Ok, Err}
use Rattle.std.specs.Str.Lines.{lines}
use Rattle.evl_scenario.specs.Lines.{line_feed, step_text}
use Rattle.evl_scenario.specs.Scenarios.{Script, scenario_of}
use Rattle.evl_scenario.specs.Writings.{IsUnwritten, opening_text, scenario_text}
use Rattle.evl_scenario.specs.declared.faults.Fault.{Fault}
use Rattle.evl_scenario.specs.declared.faults.Fault.TheVariants as faults
use Rattle.evl_scenario.specs.declared.steps.Step.{Step}
use Rattle.evl_scenario.specs.declared.writing.Unwritten.{Unwritten}
use Rattle.evl_scenario.specs.declared.writing.Unwritten.TheVariants as unwritten
use Rattle.lab_lines.specs.Lines.{bytes_at, words_of}
use Rattle.lab_lines.specs.Texts.{IsRefused, Means}
use Rattle.lab_lines.specs.declared.places.Part.{Part}
use Rattle.lab_lines.specs.declared.texts.LinesFault.{LinesFault}
use Rattle.lab_lines.specs.declared.texts.Meant.{Meant}
use Rattle.lab_lines.specs.declared.writing.Unlined.{Unlined}
use Rattle.lab_lines.specs.declared.writing.Unlined.TheVariants as unlined

-- ---- the text

-- a key with its value, from the line that a scenario has of them: three words and more, of which the second is an equals sign
abbrev pub given_text : List ℕ → List Part → List ℕ
given_text line (key ∷ equals ∷ value ∷ rest) = codes " " ++ (bytes_at line key ++ (codes "=" ++ drop value.from line))
given_text line _ = []

-- the keys of the limit and the board in one line
abbrev pub board_line : Script → List ℕ
board_line script = codes "board" ++ (flat_map (λ line. given_text line (words_of line)) (lines (opening_text script.board script.limit)) ++ line_feed)

abbrev pub step_line : Step → List ℕ
step_line step = step_text step ++ line_feed

-- the board, and a line for each step, as a trace has it before the arrow
abbrev pub lines_text : Script → List ℕ
lines_text script = board_line script ++ flat_map step_line script.steps

-- ---- what was written

-- a text of lines means just this board, this limit and these steps
abbrev pub MeansScript : List ℕ → Script → Type 0
MeansScript text script = (meant : Meant) × Means text meant × (scenario_of None (string_bytes meant.scenario) ≡ Ok script)

-- rule: A scenario is written as the board with the limit and a line for each step, or with a table for each step;
--   either means exactly its board, limit and steps when read again. None is written if the text is no scenario, if
--   with tables it would be too long, or if the lines would mean something else.
--   also: Writings.{lines_text, IsTables, IsUnlined}
--   clauses: write_lines: refused, written; write_tables: written
--   rows: scenarios_are_written_as_lines
-- a text was written of this scenario, and means just this
pub record IsWritten (scenario : Script) (text : List ℕ) : Type 0 where
  pub is_text : text ≡ lines_text scenario
  pub reads_back : MeansScript text scenario

-- a scenario was written of it with a table for each step, and is read as just this
pub record IsTables (scenario : Script) (text : List ℕ) : Type 0 where
  pub is_text : text ≡ scenario_text scenario
  pub reads_back : scenario_of None text ≡ Ok scenario

-- the lines of a scenario don't read back as it
abbrev pub ReadsOtherwise : Script → Type 0
ReadsOtherwise script =
    ((e : LinesFault) × IsRefused (lines_text script) e)
    ⊎ ((meant : Meant) × Means (lines_text script) meant × (string_bytes meant.scenario ≢ scenario_text script))

-- The scenario, with a table for each step, would be none; or its lines would read otherwise.
abbrev pub IsUnlinedOf : Script → Unlined → Type 0
IsUnlinedOf script e = ((why : Unwritten) × (e ≡ unlined.Unwritten why) × IsUnwritten why script) ⊎ ((e ≡ unlined.Unlike) × ReadsOtherwise script)

-- Or the text is no scenario.
abbrev pub IsUnlined : Result Script Fault → Unlined → Type 0
IsUnlined read e =
    ((fault : Fault) × (e ≡ unlined.Scenario fault) × ((fault ≡ faults.Memory) ⊎ (read ≡ Err fault)))
    ⊎ ((script : Script) × (read ≡ Ok script) × IsUnlinedOf script e)

-- ---- for private clauses

-- a text of lines means the scenario with this text
abbrev pub MeansText : List ℕ → List ℕ → Type 0
MeansText own text = (meant : Meant) × Means text meant × (string_bytes meant.scenario ≡ own)

-- or another, or none
abbrev pub IsOtherwise : List ℕ → List ℕ → Unlined → Type 0
IsOtherwise own text e =
    (e ≡ unlined.Unwritten unwritten.Memory)
    ⊎ ((e ≡ unlined.Unlike)
    × (((f : LinesFault) × IsRefused text f) ⊎ ((meant : Meant) × Means text meant × (string_bytes meant.scenario ≢ own))))
