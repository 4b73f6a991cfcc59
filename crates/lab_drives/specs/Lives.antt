-- The answers of `lab live` to the lines of its input.
use Rattle.std.specs.Prelude.{◌≡◌, ◌≤◌, ◌⊎◌, ℕ, List, [], ◌∷◌, ◌++◌, codes, length, true, Option, Some, None, IsSomeAnd, is_some, option_map, Ok, Err}
use Rattle.std.specs.List.{All}
use Rattle.evl_kernel.specs.state.States.{Handler}
use Rattle.evl_scenario.specs.Scenarios.{Script, scenario_of}
use Rattle.evl_scenario.specs.Traces.{history_trace}
use Rattle.evl_scenario.specs.declared.faults.Fault.{Fault}
use Rattle.lab_kinds.specs.Kinds.{kind_of}
use Rattle.lab_lines.specs.Kinds.{IsPlain}
use Rattle.lab_traces.specs.Parts.{Lacks}
use Rattle.lab_traces.specs.Says.{whole_lines}
use Rattle.lab_live.specs.Sessions.{Driven, Opens}
use Rattle.lab_drives.specs.Writings.{AnswersLine}
use Rattle.lab_streams.specs.Banks.{IsBank, Refuses}
use Rattle.lab_streams.specs.Endings.{kinded_words, line_about}
use Rattle.lab_streams.specs.Lines.{SaysUnread}
use Rattle.lab_streams.specs.Outputs.{Output, Writes, prints, refuses}
use Rattle.lab_streams.specs.Readings.{most_bytes, unread_words}
use Rattle.lab_streams.specs.Texts.{IsAllOf}
use Rattle.lab_streams.specs.declared.texts.Unread.{Unread}
use Rattle.lab_streams.specs.declared.words.Driving.{Driving}

-- ---- lines

-- lines, one after the other
abbrev pub AnswersEach : List (List ℕ) → Driven → Driven → List ℕ → Type 0
AnswersEach [] old new answers = (new ≡ old) × (answers ≡ [])
AnswersEach (line ∷ lines) old new answers =
    (mid : Driven) × (first others : List ℕ) × AnswersLine line old mid first × AnswersEach lines mid new others × (answers ≡ first ++ others)

-- ---- bytes

-- bytes after those of a line that wait: the whole lines among them are answered, and these wait then
pub record Hears (bytes before after : List ℕ) (old new : Driven) (answers : List ℕ) : Type 0 where
  pub lines : List (List ℕ)
  pub whole : whole_lines lines ++ after ≡ before ++ bytes
  pub alone : All (Lacks 10) lines
  pub answered : AnswersEach lines old new answers

-- all lines of some bytes are answered, of which the last one ends with no line feed
pub record AnswersAll (bytes : List ℕ) (old new : Driven) (answers : List ℕ) : Type 0 where
  pub lines : List (List ℕ)
  pub last : List ℕ
  pub whole : whole_lines lines ++ last ≡ bytes
  pub alone : All (Lacks 10) (lines ++ last ∷ [])
  pub answered : AnswersEach (lines ++ last ∷ []) old new answers

-- all lines of the input, as far as it is known
pub record AnswersInput (known : Option (List ℕ)) (old new : Driven) (answers : List ℕ) : Type 0 where
  pub bytes : List ℕ
  pub all_of : IsAllOf known bytes
  pub all : AnswersAll bytes old new answers

-- ---- a machine

-- the trace of what it was asked before the first line, and the answers
pub record Drives (known : Option (List ℕ)) (start : Driven) (output : Output) : Type 0 where
  pub end : Driven
  pub answers : List ℕ
  pub answered : AnswersInput known start end answers
  pub output_is : output ≡ prints (history_trace start.board start.limit start.history.entries start.history.plays ++ answers)

-- the machine of a text's scenario over these callbacks, under a limit that may be handed in; or why there is none
abbrev pub DrivesText : List Handler → Option ℕ → Option (List ℕ) → List ℕ → Output → Type 0
DrivesText bank limit known text output =
    ((script : Script) × (scenario_of limit text ≡ Ok script) × (start : Driven) × Opens script bank start × Drives known start output)
    ⊎ ((fault : Fault) × (scenario_of limit text ≡ Err fault) × IsSomeAnd (kinded_words (kind_of text) fault) (λ words. output ≡ refuses 2 (line_about (codes "lab") words)))

-- the scenario where no file is named
abbrev pub default_text : List ℕ
default_text =
    codes "limit = 1000000\n[board]\nthreads = 8\nsems = [0, 0, 0, 0]\nflags = [0, 0]\nxbufs = [[64, 64]]\n"
    ++ codes "mutexes = [\"normal\", \"normal\", \"recursive\", \"ceiling 50\"]\ngroups = [50]\n"

-- the text in place of that of a file, of which nobody knows, or that one
abbrev pub IsTextOf : Option (List ℕ) → List ℕ → Type 0
IsTextOf None text = text ≡ default_text
IsTextOf (Some file) text = (given : List ℕ) × (length given ≤ most_bytes) × IsPlain given text

-- what is said of a text of lines that can't be read
abbrev pub SaysUndriven : List ℕ → Output → Type 0
SaysUndriven given output = (said : List ℕ) × SaysUnread (codes "lab") given said × (output ≡ refuses 2 said)

-- or of a file that isn't read
abbrev pub SaysUnopened : List ℕ → Unread → Output → Type 0
SaysUnopened path why output = IsSomeAnd (unread_words why) (λ words. output ≡ refuses 2 (line_about path words))

-- over the callbacks of a bank's file or the program's
pub record DrivesOver (plans : Option (List ℕ)) (limit : Option ℕ) (text : List ℕ) (known old new quiet spoken : Option (List ℕ)) (status : ℕ) : Type 0 where
  pub bank : List Handler
  pub is_bank : IsBank plans bank
  pub writes : Writes (DrivesText bank limit known text) old new quiet spoken status

-- or that bank's file is refused
abbrev pub DrivesUnlessRefused : Driving → List ℕ → Option (List ℕ) → Option (List ℕ) → Option (List ℕ) → Option (List ℕ) → Option (List ℕ) → ℕ → Type 0
DrivesUnlessRefused driving text known old new quiet spoken status =
    Refuses (option_map (λ file. file.now) driving.bank) old new quiet spoken status
    ⊎ DrivesOver (option_map (λ file. file.now) driving.bank) driving.limit text known old new quiet spoken status

-- of a text, by what is in its place; of a text of lines that can't be read its first fault is said
abbrev pub DrivesGiven : Driving → List ℕ → Option (List ℕ) → Option (List ℕ) → Option (List ℕ) → Option (List ℕ) → Option (List ℕ) → ℕ → Type 0
DrivesGiven driving given known old new quiet spoken status =
    ((plain : List ℕ) × IsPlain given plain × DrivesUnlessRefused driving plain known old new quiet spoken status)
    ⊎ Writes (SaysUndriven given) old new quiet spoken status

-- rule: `lab live` prints the trace of its scenario, also that of a text of lines, then the answer to each input line
--   in order, as `answer_line` promises at the machine that the lines before left; `save FILE` and `draw FILE` leave
--   the machine, and print that FILE was written, that it cannot be, or why there is no scenario. The picture is the
--   first page of what `draw` prints of the scenario over the machine's callbacks. It answers 2 exactly if there is no
--   machine.
--   also: Lives.{DrivesText, AnswersInput, Hears}; Writings.{AnswersLine, WritesPicture, WritesScenario};
--   Machines.IsPictured
--   clauses: live; drive_plans; drive; take_bytes; answer; path_behind; machine_picture
--   rows: a_path_stands_behind_its_word
-- the bank is refused; or its machine is driven; or a file that is named isn't read, or its lines can't be read
abbrev pub Lives : Option (List ℕ) → Option (List ℕ) → Option ℕ → Option (List ℕ) → Option (List ℕ) → Option (List ℕ) → Option (List ℕ) → Option (List ℕ) → ℕ → Type 0
Lives plans file limit known old new quiet spoken status =
    Refuses plans old new quiet spoken status
    ⊎ (((text : List ℕ) × IsTextOf file text × DrivesOver plans limit text known old new quiet spoken status)
    ⊎ (((path : List ℕ) × (file ≡ Some path) × (why : Unread) × Writes (SaysUnopened path why) old new quiet spoken status)
    ⊎ ((is_some file ≡ true) × (given : List ℕ) × (length given ≤ most_bytes) × Writes (SaysUndriven given) old new quiet spoken status)))
