-- The meaning of a text of callers, once its steps are those of a scenario.
use Rattle.std.specs.Prelude.{◌≡◌, ◌≤◌, ◌⊎◌, ℕ, List, [], ◌∷◌, length, map, nat_lt, false, ◌&&◌, if◌then◌else◌, Option, Some, None, option_map, Ok, Err}
use Rattle.std.specs.List.{list_all}
use Rattle.std.specs.Str.{is_utf8}
use Rattle.toml.specs.Data.{Items, Members, members_depth, members_have_valid_dates}
use Rattle.toml.specs.Parse.{parse_document}
use Rattle.lab_callers_text.specs.Documents.{all_put, items_in, mark_view, marks_in, put_list, read_for, scenario_in, staxes_in}
use Rattle.lab_callers_text.specs.Marks.{act_of}
use Rattle.lab_callers_text.specs.declared.acts.CallersStep.{CallersStep}
use Rattle.lab_callers_text.specs.declared.marks.Mark.{Mark}
use Rattle.lab_callers_text.specs.declared.reading.CallersText.{CallersText}
use Rattle.evl_scenario.specs.Scenarios.{Script, scenario_of}
use Rattle.evl_base.specs.Board.{board_fits}
use Rattle.evl_base.specs.Limits.{stax_fits}
use Rattle.evl_scenario.specs.declared.faults.Fault.{Fault}
use Rattle.evl_scenario.specs.declared.faults.Fault.TheVariants as fault
use Rattle.evl_scenario.specs.declared.steps.Step.{Step}

-- the steps of a scenario in their order, each with the mark of what it means
abbrev pub steps_as : List (Option Mark) → List Step → List CallersStep
steps_as (mark ∷ marks) (step ∷ steps) = (record { who = step.who; act = act_of mark step.call }) ∷ steps_as marks steps
steps_as _ _ = []

-- the board, the limit and the steps are those of the scenario that the text is, but for the staxes and what the marks say
pub record OpensAs (given : Option ℕ) (text : List ℕ) (limits : List ℕ) (marks : List (Option Mark)) (read : CallersText) : Type 0 where
  pub script : Script
  pub scenario : scenario_of given text ≡ Ok script
  pub threads : read.board.threads ≡ script.board.threads
  pub sems : read.board.sems ≡ script.board.sems
  pub flags : read.board.flags ≡ script.board.flags
  pub xbufs : read.board.xbufs ≡ script.board.xbufs
  pub mutexes : read.board.mutexes ≡ script.board.mutexes
  pub groups : read.board.groups ≡ script.board.groups
  pub staxes : read.board.staxes.items ≡ limits
  pub limit : read.limit ≡ script.limit
  pub each : length marks ≡ length script.steps
  pub steps : read.steps.items ≡ steps_as marks script.steps

-- The document that a text is says so: the limits of its staxes, what its steps say beside calls, and a document of a
-- scenario, of which the text that is read has just the keys and values where it has no more than 80 levels.
pub record SaysSo (document : Members) (text : List ℕ) (limits : List ℕ) (marks : List (Option Mark)) : Type 0 where
  pub staxes : staxes_in document ≡ Some limits
  pub names : marks_in document ≡ Some (map (option_map mark_view) marks)
  pub plain : Members
  pub made : scenario_in document ≡ Some plain
  pub whole : members_depth plain ≤ 80 → parse_document text ≡ Some plain

-- what is read of a text: its document says so, and what it says is read
pub record IsRead (given : Option ℕ) (bytes : List ℕ) (read : CallersText) : Type 0 where
  pub document : Members
  pub parsed : parse_document bytes ≡ Some document
  pub text : List ℕ
  pub limits : List ℕ
  pub marks : List (Option Mark)
  pub says : SaysSo document text limits marks
  -- rule: A text of callers is read as its document says: the staxes' limits, each step's word, the name at the word's
  --   own key (1 to 32 allowed letters); the rest as a scenario. The document has at most 80 levels, the board is
  --   within its limits.
  --   clauses: read_callers
  --   rows: a_bad_board_is_refused; a_board_has_staxes; a_limit_is_handed_in; each_word_is_read; names_are_refused;
  --   no_step_is_written; other_keys_are_refused
  pub opens : OpensAs given text limits marks read

-- ---- why a text is refused

-- the document that a text is
abbrev pub document_of : List ℕ → Option Members
document_of bytes =
    if nat_lt 1048576 (length bytes) then None
    else if is_utf8 bytes then parse_document bytes
    else None

-- A scenario's text is none, for this fault. Or it is one, whose board with these staxes has a number out of its limits, or whose
-- steps aren't so many.
abbrev pub IsUnfit : Option ℕ → List ℕ → List ℕ → ℕ → Fault → Type 0
IsUnfit given text limits count e =
    (scenario_of given text ≡ Err e)
    ⊎ ((script : Script) × (scenario_of given text ≡ Ok script)
    × (((e ≡ fault.Board) × (board_fits script.board && list_all stax_fits limits ≡ false)) ⊎ ((e ≡ fault.Text) × (count ≡ length script.steps → ⊥))))

-- The scenario's text that is read for these steps is refused, or a step among them can't be put.
abbrev pub IsAgainst : Option ℕ → List ℕ → List ℕ → Items → Fault → Type 0
IsAgainst given text limits steps e =
    IsUnfit given text limits (length (put_list steps)) e
    ⊎ ((e ≡ fault.Text) × (all_put steps ≡ false))

-- A document's part of a scenario is refused: a date in it is none; or else the text that is read for it, which has just the keys
-- and values that are read for it where these have no more than 80 levels.
abbrev pub IsRefusedFor : Option ℕ → Members → List ℕ → Items → Fault → Type 0
IsRefusedFor given plain limits steps e =
    ((e ≡ fault.Text) × (members_have_valid_dates plain ≡ false))
    ⊎ ((text : List ℕ) × (members_depth plain ≤ 80 → parse_document text ≡ Some plain) × IsAgainst given text limits steps e)

-- A document is refused: it has no table of a board, no list of the limits of staxes, or no list of steps; or else for its scenario.
abbrev pub IsRefusedIn : Option ℕ → Members → Fault → Type 0
IsRefusedIn given document e =
    ((e ≡ fault.Board) × ((staxes_in document ≡ None) ⊎ (items_in document ≡ None)))
    ⊎ ((limits : List ℕ) × (staxes_in document ≡ Some limits) × (steps : Items) × (items_in document ≡ Some steps) × (plain : Members) × (read_for document ≡ Some plain)
    × IsRefusedFor given plain limits steps e)

-- rule: A text is refused exactly for what its document says, or for want of memory: it is longer than 1 MiB, no UTF-8
--   or no document (`text`); it has no table of a board, no list of staxes or of steps (`board`); or else the text of a
--   scenario that is read for it is refused, or a stax is outside its limits (`board`). For a step without the name or
--   number that its word needs, a step without keys is read, which is refused.
--   clauses: read_callers
--   rows: a_bad_board_is_refused; names_are_refused; other_keys_are_refused
-- Why a text is refused: it's no document; or else for what its document is. Or memory ran out.
abbrev pub IsRefused : Option ℕ → List ℕ → Fault → Type 0
IsRefused given bytes e =
    (e ≡ fault.Memory)
    ⊎ (((e ≡ fault.Text) × (document_of bytes ≡ None))
    ⊎ ((document : Members) × (document_of bytes ≡ Some document) × IsRefusedIn given document e))
