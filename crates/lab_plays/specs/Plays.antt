-- The report of `lab play` on scenarios.
use Rattle.std.specs.Prelude.{◌≡◌, ◌≤◌, ◌⊎◌, ◌-◌, ◌^◌, max, ℕ, List, [], ◌∷◌, ◌++◌, length, map, take, find, codes, decimal, string_bytes, Bool, true, false, MatchBool, if◌then◌else◌, Option, Some, None, option_map, unwrap_or, IfSome, IsSomeAnd, Result, Ok, Err}
use Rattle.std.specs.List.{All, concat}
use Rattle.std.specs.Str.{bytes_eq}
use Rattle.std.specs.Str.Lines.{lines}
use Rattle.std.specs.Io.KnownBytes.{Appends}
use Rattle.evl_kernel.specs.state.States.{Handler}
use Rattle.evl_scenario.specs.Lines.{line_feed}
use Rattle.evl_scenario.specs.declared.faults.Fault.{Fault}
use Rattle.evl_shell.specs.Runs.{trace_of}
use Rattle.lab_kinds.specs.Kinds.{kind_of}
use Rattle.lab_kinds.specs.declared.kinds.TextKind.{TextKind}
use Rattle.lab_lines.specs.Kinds.{IsPlain}
use Rattle.lab_traces.specs.Lines.{Said, line_read}
use Rattle.lab_traces.specs.Says.{IsLine, IsMisread, whole_lines}
use Rattle.lab_reports.specs.Differences.{Apart, differing}
use Rattle.lab_reports.specs.Json.{trace_json}
use Rattle.lab_streams.specs.Banks.{IsBank, Refuses}
use Rattle.lab_streams.specs.Endings.{kinded_words, line_about}
use Rattle.lab_plays.specs.Expects.{JudgesText}
use Rattle.lab_plays.specs.Folders.{trace_path}
use Rattle.lab_streams.specs.Lines.{SaysUnread}
use Rattle.lab_streams.specs.Readings.{IsReadOf, Reading, most_bytes, too_long_words, unread_words}
use Rattle.lab_streams.specs.Texts.{is_input, names_or_input, text_in}
use Rattle.lab_plays.specs.declared.expects.Judged.{Judged}
use Rattle.lab_streams.specs.declared.texts.Unread.{Unread}
use Rattle.lab_streams.specs.declared.texts.Unread.TheVariants.{NoFile, TooLong, Memory}
use Rattle.lab_streams.specs.declared.words.Playing.{Playing}
use Rattle.lab_streams.specs.declared.words.Telling.{Telling}
use Rattle.lab_streams.specs.declared.words.Telling.TheVariants.{Trace, Json, Against}

-- ---- what is reported

-- what is printed of a scenario, what is said of its end, and its status
pub record Told : Type 0 where
  pub printed : List ℕ
  pub said : List ℕ
  pub status : ℕ

abbrev pub ends_well : List ℕ → List ℕ → Told
ends_well name printed = record { printed = printed; said = line_about name (codes "done"); status = 0 }

-- a trace was kept that differs
abbrev pub ends_apart : List ℕ → List ℕ → List ℕ → Told
ends_apart name printed words = record { printed = printed; said = line_about name words; status = 1 }

-- it ends otherwise, for a reason
abbrev pub ends_ill : List ℕ → List ℕ → Told
ends_ill name words = record { printed = []; said = line_about name words; status = 2 }

-- this was written: the output and the error stream have it after what they had
pub record Tells (Is : Told → Type 0) (old new quiet spoken : Option (List ℕ)) (status : ℕ) : Type 0 where
  pub told : Told
  pub is : Is told
  pub prints : Appends old new told.printed
  pub says : Appends quiet spoken told.said
  pub ends : status ≡ told.status

-- ---- as JSON

-- a text is lines of a trace, and this is what they say
pub record IsTrace (text : List ℕ) (said : List Said) : Type 0 where
  pub lines : List (List ℕ)
  pub whole : whole_lines lines ≡ text
  pub alone : All IsLine lines
  pub read : map line_read lines ≡ map Some said

-- a line of JSON for each entry of a text that is lines of a trace, and nothing of another
abbrev pub IsJsonOf : List ℕ → List ℕ → List ℕ → Type 0
IsJsonOf name text json =
    ((said : List Said) × IsTrace text said × (json ≡ trace_json name said)) ⊎ ((n : ℕ) × IsMisread text n × (json ≡ []))

-- ---- beside a trace that was kept

-- what is at a line, after a sign, or that the text has ended
abbrev pub side_text : List ℕ → Option (List ℕ) → List ℕ
side_text sign line = sign ++ (codes " " ++ (unwrap_or line (codes "(the end)") ++ line_feed))

abbrev pub apart_text : List ℕ → Apart → List ℕ
apart_text name (line, stored, made) =
    name ++ (codes ": line " ++ (decimal line ++ (line_feed ++ (side_text (codes "-") stored ++ side_text (codes "+") made))))

abbrev pub differences_told : List ℕ → List Apart → Told
differences_told name [] = ends_well name []
differences_told name (d ∷ ds) = ends_apart name (concat (map (apart_text name) (d ∷ ds))) (codes "differs")

-- of a text beside another: the first difference
abbrev pub compared_told : List ℕ → List ℕ → List ℕ → Told
compared_told name stored text = differences_told name (take 1 (differing 1 (lines stored) (lines text)))

-- why the one at a path isn't read
abbrev pub unstored_words : List ℕ → Unread → Option (List ℕ)
unstored_words path NoFile = Some (codes "no trace " ++ path)
unstored_words path TooLong = Some (path ++ (codes ": " ++ too_long_words))
unstored_words path Memory = None

-- of a text beside the one at a path, if there is one
abbrev pub Compares : List ℕ → List ℕ → Reading → List ℕ → Told → Type 0
Compares name path (Ok stored) text told = (length stored ≤ most_bytes) × (told ≡ compared_told name (text_in stored) text)
Compares name path (Err why) text told = IsSomeAnd (unstored_words path why) (λ words. told ≡ ends_ill name words)

-- ---- a scenario

-- of a trace, by what is asked for
abbrev pub TellsTrace : Telling → List ℕ → List ℕ → Told → Type 0
TellsTrace Trace name trace told = told ≡ ends_well name trace
TellsTrace Json name trace told = (json : List ℕ) × IsJsonOf name (text_in trace) json × (told ≡ ends_well name json)
TellsTrace (Against folder) name trace told = (stored : Reading) × Compares name (trace_path folder.now name) stored (text_in trace) told

-- of a text of a kind that has a trace, or is refused for a fault
abbrev pub TellsPlayed : Telling → List ℕ → TextKind → Result (List ℕ) Fault → Told → Type 0
TellsPlayed telling name kind (Ok trace) told = TellsTrace telling name trace told
TellsPlayed telling name kind (Err e) told = IsSomeAnd (kinded_words kind e) (λ words. told ≡ ends_ill name words)

-- nothing but this is said
abbrev pub says_ill : List ℕ → Told
says_ill said = record { printed = []; said = said; status = 2 }

-- of a text, over a bank and under a limit that may be handed in; of one of lines by its scenario, if it can be read
abbrev pub TellsGiven : Telling → List Handler → Option ℕ → List ℕ → List ℕ → Told → Type 0
TellsGiven telling bank limit name text told =
    ((plain : List ℕ) × IsPlain text plain × TellsPlayed telling name (kind_of plain) (trace_of bank limit plain) told)
    ⊎ ((said : List ℕ) × SaysUnread name text said × (told ≡ says_ill said))

-- what is judged of it is said after that
abbrev pub with_judged : Told → Judged → Told
with_judged told j = record { printed = told.printed; said = told.said ++ string_bytes j.said; status = max told.status j.status }

-- and then whether its steps are answered as it expects
abbrev pub TellsJudged : Telling → List Handler → Option ℕ → List ℕ → List ℕ → Told → Type 0
TellsJudged telling bank limit name text told =
    (own : Told) × (j : Judged) × TellsGiven telling bank limit name text own × JudgesText bank limit name text j × (told ≡ with_judged own j)

-- of a file, by what was read of it
abbrev pub TellsFile : Telling → List Handler → Option ℕ → List ℕ → Reading → Told → Type 0
TellsFile telling bank limit name (Ok text) told = (length text ≤ most_bytes) × TellsJudged telling bank limit name text told
TellsFile telling bank limit name (Err why) told = IsSomeAnd (unread_words why) (λ words. told ≡ ends_ill name words)

-- ---- several

-- a file, what was read of it, and what is reported
pub record Played : Type 0 where
  pub name : List ℕ
  pub text : Reading
  pub told : Told

abbrev pub IsPlayed : Telling → List Handler → Option ℕ → Played → Type 0
IsPlayed telling bank limit p = TellsFile telling bank limit p.name p.text p.told

-- the first of them that is the input was read from it whole
abbrev pub IsReadFrom : Option (List ℕ) → List Played → Type 0
IsReadFrom known each = IfSome (find (λ p. is_input p.name) each) (λ p. IsReadOf known p.text)

-- the status of several: the worst
abbrev pub worst : List ℕ → ℕ
worst [] = 0
worst (status ∷ rest) = max status (worst rest)

-- what is reported of files, one after the other
pub record PlaysEach (Is : Played → Type 0) (names : List (List ℕ)) (known old new quiet spoken : Option (List ℕ)) (status : ℕ) : Type 0 where
  pub each : List Played
  pub in_order : map (λ p. p.name) each ≡ names
  pub are : All Is each
  pub read : IsReadFrom known each
  pub prints : Appends old new (concat (map (λ p. p.told.printed) each))
  pub says : Appends quiet spoken (concat (map (λ p. p.told.said) each))
  pub ends : status ≡ worst (map (λ p. p.told.status) each)

-- rule: `lab play` prints, for each file in order, the trace of the text that was read (of a text of lines, of its
--   scenario), over the bank and under the limit, or nothing if it is refused; as JSON a line for each entry; beside a
--   folder's trace the first line that differs. Standard error has a line for each file (of another kind of text for
--   which part it is, as `live`, `draw`, `convert`, `orders` and `callers` say too), then of one that expects answers
--   the step that `first_unexpected` finds, with its line. The answer is the worst of the files': 1 of a trace that
--   differs from one that was kept; 2 of one that is refused, cannot be read, or whose trace is missing. The place where a folder
--   has a file's trace is a function of their paths. The first `-` is the whole input; a file's text is some text.
--   also: Plays.{PlaysEach, TellsPlayed, Compares}; Folders.trace_path; Expects.JudgesText; Banks.Refuses
--   clauses: judge; play_files; play_each; play_text; compare; trace_path; tell_fault
-- files, or the input where none is named, were played as the words ask, over the callbacks of a bank's file or the program's
pub record Plays (asked : Playing) (names : List (List ℕ)) (known old new quiet spoken : Option (List ℕ)) (status : ℕ) : Type 0 where
  pub bank : List Handler
  pub is_bank : IsBank (option_map (λ file. file.now) asked.bank) bank
  pub plays : PlaysEach (IsPlayed asked.telling bank asked.limit) (names_or_input names) known old new quiet spoken status

-- or that bank's file is refused
abbrev pub PlaysUnlessRefused : Playing → List (List ℕ) → Option (List ℕ) → Option (List ℕ) → Option (List ℕ) → Option (List ℕ) → Option (List ℕ) → ℕ → Type 0
PlaysUnlessRefused asked names known old new quiet spoken status =
    Refuses (option_map (λ file. file.now) asked.bank) old new quiet spoken status ⊎ Plays asked names known old new quiet spoken status
