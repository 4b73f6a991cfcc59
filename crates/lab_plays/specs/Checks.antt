-- The report of `lab check` on texts, by their kinds.
use Rattle.std.specs.Prelude.{◌≡◌, ◌≤◌, ◌⊎◌, ℕ, List, [], ◌++◌, max, string_bytes, length, map, Bool, true, false, Option, None, IsSomeAnd, Ok, Err}
use Rattle.std.specs.List.{All, concat, list_any}
use Rattle.std.specs.Io.KnownBytes.{Appends}
use Rattle.evl_kernel.specs.state.States.{Handler}
use Rattle.evl_scenario.specs.Scenarios.{scenario_of}
use Rattle.lab_kinds.specs.Kinds.{checked_kind}
use Rattle.lab_kinds.specs.Reports.{Reports}
use Rattle.lab_kinds.specs.declared.kinds.TextKind.{TextKind}
use Rattle.lab_kinds.specs.declared.kinds.TextKind.TheVariants.{Scenario}
use Rattle.lab_lines.specs.Kinds.{IsPlain}
use Rattle.lab_warnings.specs.Warnings.{warnings_of}
use Rattle.lab_streams.specs.Banks.{IsBank, Refuses}
use Rattle.lab_streams.specs.Endings.{line_about, status_of}
use Rattle.lab_plays.specs.Expects.{JudgesText}
use Rattle.lab_streams.specs.Lines.{SaysUnread}
use Rattle.lab_plays.specs.Plays.{worst}
use Rattle.lab_streams.specs.Readings.{Reading, most_bytes, unread_words}
use Rattle.lab_plays.specs.declared.expects.Judged.{Judged}

-- ---- a text

-- the warnings of a dry run over a bank: a text that is no scenario has none
abbrev pub kind_warnings : List Handler → TextKind → List ℕ → List ℕ → List ℕ
kind_warnings bank Scenario name text = warnings_of name bank (scenario_of None text)
kind_warnings bank _ name text = []

-- those of a text that may be at fault
abbrev pub warnings_unless : Bool → List ℕ → List ℕ
warnings_unless true warned = []
warnings_unless false warned = warned

-- after a text stand the faults of a text of a kind, or else its warnings, and whether it is at fault is answered
pub record TellsText (bank : List Handler) (kind : TextKind) (name text before after : List ℕ) (at_fault : Bool) : Type 0 where
  pub reported : List ℕ
  pub reports : Reports kind name text before reported at_fault
  pub warned : after ≡ reported ++ warnings_unless at_fault (kind_warnings bank kind name text)

-- what is in place of a text is checked; of a text of lines that can't be read its first fault is reported
abbrev pub ChecksText : List Handler → List ℕ → List ℕ → List ℕ → Bool → Type 0
ChecksText bank name text printed at_fault =
    ((plain : List ℕ) × IsPlain text plain × TellsText bank (checked_kind plain) name plain [] printed at_fault)
    ⊎ (SaysUnread name text printed × (at_fault ≡ true))

-- this was printed, and whether the text is at fault is answered
pub record Prints (Is : List ℕ → Bool → Type 0) (old new : Option (List ℕ)) (at_fault : Bool) : Type 0 where
  pub printed : List ℕ
  pub tells : Is printed at_fault
  pub prints : Appends old new printed

-- it is checked, then judged whether its steps are answered as it expects, and has the worse status
abbrev pub ChecksJudged : List Handler → List ℕ → List ℕ → List ℕ → ℕ → Type 0
ChecksJudged bank name text printed status =
    (own : List ℕ) × (at_fault : Bool) × (j : Judged) × ChecksText bank name text own at_fault × JudgesText bank None name text j
    × (printed ≡ own ++ string_bytes j.said) × (status ≡ max (status_of at_fault) j.status)

-- this was printed, and the status is answered
pub record PrintsStatus (Is : List ℕ → ℕ → Type 0) (old new : Option (List ℕ)) (status : ℕ) : Type 0 where
  pub printed : List ℕ
  pub tells : Is printed status
  pub prints : Appends old new printed

-- a file, what was read of it, what is printed, and its status
pub record Checked : Type 0 where
  pub name : List ℕ
  pub text : Reading
  pub printed : List ℕ
  pub status : ℕ

-- of a file, by what was read of it
abbrev pub TellsFile : List Handler → List ℕ → Reading → List ℕ → ℕ → Type 0
TellsFile bank name (Ok text) printed status = (length text ≤ most_bytes) × ChecksJudged bank name text printed status
TellsFile bank name (Err why) printed status = IsSomeAnd (unread_words why) (λ words. printed ≡ line_about name words) × (status ≡ 2)

abbrev pub IsChecked : List Handler → Checked → Type 0
IsChecked bank c = TellsFile bank c.name c.text c.printed c.status

-- ---- several

-- what is reported of files, one after the other, and the worst status
pub record ChecksEach (bank : List Handler) (names : List (List ℕ)) (old new : Option (List ℕ)) (status : ℕ) : Type 0 where
  pub each : List Checked
  pub in_order : map (λ c. c.name) each ≡ names
  pub are : All (IsChecked bank) each
  pub prints : Appends old new (concat (map (λ c. c.printed) each))
  pub ends : status ≡ worst (map (λ c. c.status) each)

-- rule: `lab check` prints, for each file in order, the faults of the text that was read by its kind, else a scenario's
--   warnings, or that it cannot be read; of a text of lines those of its scenario, or the first line that cannot be
--   read, with its number. Then that of a text that expects answers. It answers 2 exactly if a text has a fault (a
--   scenario: if it cannot be played, or expects what cannot be) or a file cannot be read, else 1 exactly if a step is
--   answered otherwise.
--   also: Checks.{ChecksEach, ChecksText}; Banks.Refuses; Reports.Reports
--   clauses: check_files; check_each; tell_faults; check_given
-- files were checked over the callbacks of a bank's file or the program's, and nothing else is said
pub record Checks (file : Option (List ℕ)) (names : List (List ℕ)) (old new quiet spoken : Option (List ℕ)) (status : ℕ) : Type 0 where
  pub bank : List Handler
  pub is_bank : IsBank file bank
  pub checks : ChecksEach bank names old new status
  pub silent : spoken ≡ quiet

-- or that bank's file is refused
abbrev pub ChecksUnlessRefused : Option (List ℕ) → List (List ℕ) → Option (List ℕ) → Option (List ℕ) → Option (List ℕ) → Option (List ℕ) → ℕ → Type 0
ChecksUnlessRefused file names old new quiet spoken status = Refuses file old new quiet spoken status ⊎ Checks file names old new quiet spoken status
