-- The output of `lab check --json` for texts, by their kinds.
use Rattle.std.specs.Prelude.{◌≡◌, ◌≤◌, ◌⊎◌, ℕ, ◌==◌, Bool, true, List, [], ◌++◌, codes, flat_map, length, map, max, string_bytes, if◌then◌else◌, Option, Some, None, IsSomeAnd, Ok, Err}
use Rattle.std.specs.List.{All, concat}
use Rattle.std.specs.Str.Lines.{lines}
use Rattle.std.specs.Io.KnownBytes.{Appends}
use Rattle.evl_kernel.specs.state.States.{Handler}
use Rattle.lab_faults.specs.Told.{fault_told}
use Rattle.lab_faults.specs.declared.found.Found.{Found}
use Rattle.lab_json.specs.Notices.{Said, fault_json, notice_json}
use Rattle.lab_json.specs.Warned.{judged_said, warned_json}
use Rattle.lab_json.specs.declared.notices.Noticed.TheVariants.{Fault, Unread as OfUnread}
use Rattle.lab_kinds.specs.Kinds.{checked_kind}
use Rattle.lab_kinds.specs.Reports.{ScenarioTells, TellsKind, is_some_found}
use Rattle.lab_kinds.specs.declared.kinds.TextKind.{TextKind}
use Rattle.lab_lines.specs.Kinds.{IsPlain, IsUnread}
use Rattle.lab_lines.specs.declared.texts.LinesFault.{LinesFault}
use Rattle.lab_lines.specs.declared.texts.LinesFault.TheVariants as fault
use Rattle.lab_plays.specs.Checks.{kind_warnings}
use Rattle.lab_plays.specs.Expects.{JudgesText}
use Rattle.lab_plays.specs.Plays.{worst}
use Rattle.lab_plays.specs.declared.expects.Judged.{Judged}
use Rattle.lab_streams.specs.Banks.{IsBank, Refuses}
use Rattle.lab_streams.specs.Endings.{status_of}
use Rattle.lab_streams.specs.Readings.{Reading, most_bytes, unread_words}

-- ---- a text

-- the warnings of a dry run, a line of JSON each
abbrev pub warned_notes : List Handler → TextKind → List ℕ → List ℕ → List ℕ
warned_notes bank kind name text = flat_map (warned_json name) (lines (kind_warnings bank kind [] text))

-- the faults that were found, or else the warnings
abbrev pub found_notes : List Handler → TextKind → List ℕ → List ℕ → List Found → List ℕ
found_notes bank kind name text found =
    if is_some_found found then flat_map (fault_json name) (map fault_told found) else warned_notes bank kind name text

-- after what was written stand the faults of a text of a kind, or else its warnings, and whether it is at fault is answered
pub record NotesKind (bank : List Handler) (kind : TextKind) (name text old new : List ℕ) (at_fault : Bool) : Type 0 where
  pub found : List Found
  pub tells : TellsKind kind text (map fault_told found)
  pub answers : at_fault ≡ is_some_found found
  pub written : new ≡ old ++ found_notes bank kind name text found

-- a fault at a line and a byte
abbrev pub said_at : ℕ → ℕ → List ℕ → Said
said_at line byte says = record { kind = Fault; line = Some line; byte = Some byte; step = None; says = says }

-- of a text of lines; of want of memory there is none
abbrev pub place_said : LinesFault → Option Said
place_said fault.Text = Some (said_at 1 1 (codes "a text in UTF-8 is wanted"))
place_said (fault.Line line unread) = Some (said_at line unread.column (string_bytes unread.words))
place_said fault.Board = Some (said_at 1 1 (codes "a line with the board is wanted, as board threads=2 sems=[0]"))
place_said fault.TooLong = Some (said_at 1 1 (codes "a scenario of at most 1048576 bytes is wanted"))
place_said fault.Memory = None

abbrev pub NotesUnread : List ℕ → List ℕ → List ℕ → List ℕ → Bool → Type 0
NotesUnread name text old new at_fault =
    (e : LinesFault) × IsUnread text e × IsSomeAnd (place_said e) (λ said. new ≡ old ++ notice_json name said) × (at_fault ≡ true)

-- what is in place of a text; of a text of lines that can't be read its first fault
abbrev pub NotesText : List Handler → List ℕ → List ℕ → List ℕ → List ℕ → Bool → Type 0
NotesText bank name text old new at_fault =
    ((plain : List ℕ) × IsPlain text plain × NotesKind bank (checked_kind plain) name plain old new at_fault)
    ⊎ NotesUnread name text old new at_fault

-- what is judged of its steps, if anything is
abbrev pub judged_notes : List ℕ → Judged → List ℕ
judged_notes name j = if j.status == 0 then [] else notice_json name (judged_said (j.status == 2) (string_bytes j.said))

-- both, and the worse status
abbrev pub NotesAll : List Handler → List ℕ → List ℕ → List ℕ → List ℕ → ℕ → Type 0
NotesAll bank name text old new status =
    (own : List ℕ) × (at_fault : Bool) × (j : Judged) × NotesText bank name text old own at_fault × JudgesText bank None [] text j
    × (new ≡ own ++ judged_notes name j) × (status ≡ max (status_of at_fault) j.status)

-- ---- a file

abbrev pub unread_said : List ℕ → Said
unread_said words = record { kind = OfUnread; line = None; byte = None; step = None; says = words }

-- by what was read of it
abbrev pub NotesFile : List Handler → List ℕ → Reading → List ℕ → List ℕ → ℕ → Type 0
NotesFile bank name (Ok text) old new status = (length text ≤ most_bytes) × NotesAll bank name text old new status
NotesFile bank name (Err why) old new status =
    IsSomeAnd (unread_words why) (λ words. new ≡ old ++ notice_json name (unread_said words)) × (status ≡ 2)

-- ---- several

-- a file, what was read of it, what is printed, and its status
pub record Noted : Type 0 where
  pub name : List ℕ
  pub text : Reading
  pub printed : List ℕ
  pub status : ℕ

abbrev pub IsNoted : List Handler → Noted → Type 0
IsNoted bank n = NotesFile bank n.name n.text [] n.printed n.status

-- files, one after the other, and the worst status
pub record NotesEach (bank : List Handler) (names : List (List ℕ)) (old new : Option (List ℕ)) (status : ℕ) : Type 0 where
  pub each : List Noted
  pub in_order : map (λ n. n.name) each ≡ names
  pub are : All (IsNoted bank) each
  pub prints : Appends old new (concat (map (λ n. n.printed) each))
  pub ends : status ≡ worst (map (λ n. n.status) each)

-- rule: `lab check --json` prints, for each file in order, such a line for each fault of the text that was read, by the
--   kind as which it is checked, or else for each warning of a scenario's dry run, then for the first step that is
--   answered otherwise than expected, or never so; or one line that the file is not read. The answer is that of
--   `check`.
--   also: Notes.{NotesEach, NotesAll, NotesText, NotesKind}
--   clauses: note_files; note_each; note_all; note_given; note_kind
-- over the callbacks of a bank's file or the program's, and nothing else is said
pub record Notes (file : Option (List ℕ)) (names : List (List ℕ)) (old new quiet spoken : Option (List ℕ)) (status : ℕ) : Type 0 where
  pub bank : List Handler
  pub is_bank : IsBank file bank
  pub notes : NotesEach bank names old new status
  pub silent : spoken ≡ quiet

-- or that bank's file is refused
abbrev pub NotesUnlessRefused : Option (List ℕ) → List (List ℕ) → Option (List ℕ) → Option (List ℕ) → Option (List ℕ) → Option (List ℕ) → ℕ → Type 0
NotesUnlessRefused file names old new quiet spoken status = Refuses file old new quiet spoken status ⊎ Notes file names old new quiet spoken status
