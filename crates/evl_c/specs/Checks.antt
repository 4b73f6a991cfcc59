-- C's view of the faults of a text: what `lab check` prints.
use Rattle.std.specs.Prelude.{◌≡◌, ◌⊎◌, ℕ, Bool, true, false, List, [], ◌++◌, codes, decimal, string_bytes, Option, Some, None, IsSomeAnd}
use Rattle.evl_kernel.specs.state.States.{Handler}
use Rattle.evl_scenario.specs.Scenarios.{scenario_of}
use Rattle.lab_kinds.specs.Kinds.{checked_kind}
use Rattle.lab_kinds.specs.Reports.{Reports}
use Rattle.lab_kinds.specs.declared.kinds.TextKind.{TextKind}
use Rattle.lab_kinds.specs.declared.kinds.TextKind.TheVariants.{Scenario}
use Rattle.lab_lines.specs.Kinds.{IsPlain, IsUnread}
use Rattle.lab_lines.specs.declared.texts.LinesFault.{LinesFault}
use Rattle.lab_lines.specs.declared.texts.LinesFault.TheVariants as fault
use Rattle.lab_warnings.specs.Warnings.{warnings_of}
use Rattle.evl_c.specs.Texts.{TellsText}
use Rattle.evl_c.specs.declared.checks.Checked.{Checked}

-- the warnings of a dry run over these callbacks: a text that is no scenario has none
abbrev pub kind_warnings : List Handler → TextKind → List ℕ → List ℕ → List ℕ
kind_warnings bank Scenario name text = warnings_of name bank (scenario_of None text)
kind_warnings bank _ name text = []

-- those of a text that may be at fault
abbrev pub warnings_unless : Bool → List ℕ → List ℕ
warnings_unless true warned = []
warnings_unless false warned = warned

-- a line is added for each fault of a text of this kind, or else for each warning, and the answer says whether the text is at fault
pub record Checks (bank : List Handler) (kind : TextKind) (name text before after : List ℕ) (at_fault : Bool) : Type 0 where
  pub reported : List ℕ
  pub reports : Reports kind name text before reported at_fault
  pub warned : after ≡ reported ++ warnings_unless at_fault (kind_warnings bank kind name text)

-- the line, the byte, and what is wanted there
abbrev pub place_line : List ℕ → ℕ → ℕ → List ℕ → List ℕ
place_line name line column words =
    name ++ (codes ":" ++ (decimal line ++ (codes ":" ++ (decimal column ++ (codes ": " ++ (words ++ codes "\n"))))))

-- why a text of lines can't be read; of want of memory there is no line
abbrev pub place_text : List ℕ → LinesFault → Option (List ℕ)
place_text name fault.Text = Some (place_line name 1 1 (codes "a text in UTF-8 is wanted"))
place_text name (fault.Line line unread) = Some (place_line name line unread.column (string_bytes unread.words))
place_text name fault.Board = Some (place_line name 1 1 (codes "a line with the board is wanted, as board threads=2 sems=[0]"))
place_text name fault.TooLong = Some (place_line name 1 1 (codes "a scenario of at most 1048576 bytes is wanted"))
place_text name fault.Memory = None

-- what a text is taken for is checked; of a text of lines that can't be read its first fault is reported
abbrev pub ChecksText : List Handler → List ℕ → List ℕ → List ℕ → List ℕ → Bool → Type 0
ChecksText bank name text before after at_fault =
    ((plain : List ℕ) × IsPlain text plain × Checks bank (checked_kind plain) name plain before after at_fault)
    ⊎ ((e : LinesFault) × IsUnread text e × IsSomeAnd (place_text name e) (λ line. after ≡ before ++ line) × (at_fault ≡ true))

-- rule: C's buffer has the lines that `lab check` has of the text under that name, from the byte that C names: its
--   kind's faults, or else a scenario's warnings over the plans, or of a text of lines the first that cannot be read.
--   Their length, and whether they are faults, is reported. For a name that is no UTF-8, for want of memory and for
--   invalid plans nothing is written.
--   also: Checks.ChecksText
--   clauses: evlsim_c_check; evlsim_c_check_over
-- those lines are in the buffer, and C gets their length and whether the text is at fault
pub record TellsChecked (bank : List Handler) (name text : List ℕ) (start : ℕ) (old new : List ℕ) (told : Checked) : Type 0 where
  pub printed : List ℕ
  pub checks : ChecksText bank name text [] printed told.is_at_fault
  pub tells : TellsText printed start old new told.length
