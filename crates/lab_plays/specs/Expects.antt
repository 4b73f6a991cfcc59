-- The report of a text that expects its steps to be answered so.
use Rattle.std.specs.Prelude.{◌≡◌, ◌⊎◌, ℕ, Bool, List, [], ◌∷◌, ◌++◌, codes, decimal, map, string_bytes, if◌then◌else◌, Option, Some, None, Result, Ok, Err}
use Rattle.std.specs.Str.Lines.{lines}
use Rattle.evl_kernel.specs.state.States.{Handler}
use Rattle.evl_scenario.specs.Lines.{line_feed}
use Rattle.evl_scenario.specs.Scenarios.{Script, scenario_of}
use Rattle.evl_scenario.specs.declared.faults.Fault.{Fault}
use Rattle.evl_scenario.specs.declared.steps.Step.{Step}
use Rattle.evl_shell.specs.Runs.{trace_of}
use Rattle.lab_kinds.specs.Kinds.{kind_of}
use Rattle.lab_kinds.specs.declared.kinds.TextKind.{TextKind}
use Rattle.lab_kinds.specs.declared.kinds.TextKind.TheVariants.{Scenario}
use Rattle.lab_lines.specs.Expects.{expects_of}
use Rattle.lab_lines.specs.Kinds.{IsPlain, IsUnread}
use Rattle.lab_lines.specs.Met.{Judges, entries_of}
use Rattle.lab_lines.specs.Tables.{Expects, expects_in}
use Rattle.lab_lines.specs.declared.met.Unexpected.{Unexpected}
use Rattle.lab_lines.specs.declared.tables.Expected.{Expected}
use Rattle.lab_lines.specs.declared.texts.LinesFault.{LinesFault}
use Rattle.lab_streams.specs.Texts.{text_in}
use Rattle.lab_plays.specs.declared.expects.Judged.{Judged}

-- ---- what is reported

abbrev pub line_words : List ℕ → ℕ → List ℕ → List ℕ
line_words name line words = name ++ (codes ":" ++ (decimal line ++ (codes ": " ++ (words ++ line_feed))))

abbrev pub IsNothing : Judged → Type 0
IsNothing j = (string_bytes j.said ≡ []) × (j.status ≡ 0)

-- of a line, with a status: 2 of a fault of the text, 1 of a step that is answered otherwise
abbrev pub IsSaid : List ℕ → ℕ → List ℕ → ℕ → Judged → Type 0
IsSaid name line words status j = (string_bytes j.said ≡ line_words name line words) × (j.status ≡ status)

abbrev pub found_status : Bool → ℕ
found_status fault = if fault then 2 else 1

-- ---- a text

-- of what was found
abbrev pub TellsFound : List ℕ → Option Unexpected → Judged → Type 0
TellsFound name None j = IsNothing j
TellsFound name (Some u) j = IsSaid name u.line (string_bytes u.words) (found_status u.is_fault) j

-- of steps with their trace: the first that is not answered as expected
abbrev pub JudgesSteps : List ℕ → List Expected → List ℕ → List Step → Judged → Type 0
JudgesSteps name expected trace steps j =
    (found : Option Unexpected) × Judges steps (entries_of (lines (text_in trace))) expected found × TellsFound name found j

abbrev pub JudgesRead : List ℕ → List Expected → List ℕ → Result Script Fault → Judged → Type 0
JudgesRead name expected trace (Err e) j = IsNothing j
JudgesRead name expected trace (Ok script) j = JudgesSteps name expected trace script.steps j

-- of one that is refused nothing is reported here
abbrev pub JudgesTrace : List ℕ → List Expected → Result (List ℕ) Fault → Result Script Fault → Judged → Type 0
JudgesTrace name expected (Err e) read j = IsNothing j
JudgesTrace name expected (Ok trace) read j = JudgesRead name expected trace read j

abbrev pub other_words : Expected → List ℕ
other_words e = codes "step " ++ (decimal e.step ++ codes ": an answer can be expected in a scenario alone")

-- a text of another kind expects nothing
abbrev pub JudgesKind : List ℕ → Expected → List Expected → TextKind → Result (List ℕ) Fault → Result Script Fault → Judged → Type 0
JudgesKind name first expected Scenario trace read j = JudgesTrace name expected trace read j
JudgesKind name first expected _ trace read j = IsSaid name first.line (other_words first) 2 j

abbrev pub JudgesPlain : List Handler → Option ℕ → List ℕ → Expected → List Expected → List ℕ → Judged → Type 0
JudgesPlain bank limit name first expected plain j =
    JudgesKind name first expected (kind_of plain) (trace_of bank limit plain) (scenario_of limit plain) j

-- what is in place of a text is played
abbrev pub JudgesGiven : List Handler → Option ℕ → List ℕ → Expected → List Expected → List ℕ → Judged → Type 0
JudgesGiven bank limit name first expected text j =
    ((plain : List ℕ) × IsPlain text plain × JudgesPlain bank limit name first expected plain j)
    ⊎ ((e : LinesFault) × IsUnread text e × IsNothing j)

-- of a text that expects nothing nothing is reported
abbrev pub JudgesAll : List Handler → Option ℕ → List ℕ → List ℕ → List Expected → Judged → Type 0
JudgesAll bank limit name text [] j = IsNothing j
JudgesAll bank limit name text (first ∷ rest) j = JudgesGiven bank limit name first (first ∷ rest) text j

abbrev pub no_answer_words : ℕ → List ℕ
no_answer_words step = codes "step " ++ (decimal step ++ codes ": an answer in quotes is wanted, as expect = \"Deadlock\"")

abbrev pub JudgesBy : List Handler → Option ℕ → List ℕ → List ℕ → Result (List Expects) (ℕ × ℕ) → Judged → Type 0
JudgesBy bank limit name text (Ok all) j = (expected : List Expected) × (map expects_in expected ≡ all) × JudgesAll bank limit name text expected j
JudgesBy bank limit name text (Err (line, step)) j = IsSaid name line (no_answer_words step) 2 j

-- over a bank and under a limit that may be handed in
abbrev pub JudgesText : List Handler → Option ℕ → List ℕ → List ℕ → Judged → Type 0
JudgesText bank limit name text j = JudgesBy bank limit name text (expects_of text) j
