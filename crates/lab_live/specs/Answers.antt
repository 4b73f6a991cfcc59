-- The answer to a line.
use Rattle.std.specs.Prelude.{◌≡◌, ◌≢◌, ◌⊎◌, ◌==◌, ◌||◌, ℕ, Bool, false, List, [], ◌∷◌, ◌++◌, codes, decimal, drop, length, take, if◌then◌else◌, Option, Some, None}
use Rattle.std.specs.Str.{bytes_eq, is_utf8}
use Rattle.evl_base.specs.Call.{call_text}
use Rattle.evl_base.specs.declared.entry.Entry.{Entry}
use Rattle.evl_base.specs.declared.play.Play.{Play}
use Rattle.evl_kernel.specs.histories.Histories.{Extends, History}
use Rattle.evl_scenario.specs.Lines.{line_feed}
use Rattle.evl_scenario.specs.Scenarios.{Script}
use Rattle.evl_scenario.specs.Writings.{IsUnwritten, scenario_text, script_of_history}
use Rattle.evl_scenario.specs.declared.steps.Step.{Step}
use Rattle.evl_scenario.specs.declared.writing.Unwritten.TheVariants as unwritten
use Rattle.lab_faults.specs.Steps.{as_text}
use Rattle.lab_live.specs.Sessions.{Driven, Enters, TakesBack, TellsEntry, TellsFull, all_but_last}

-- ---- the line

-- a space, or a carriage return
abbrev pub is_blank : ℕ → Bool
is_blank c = c == 32 || c == 13

-- a byte before what is left of those after it
abbrev pub kept_before : ℕ → List ℕ → List ℕ
kept_before c [] = if is_blank c then [] else c ∷ []
kept_before c (d ∷ rest) = c ∷ d ∷ rest

-- the line without blanks at its end
abbrev pub trimmed : List ℕ → List ℕ
trimmed [] = []
trimmed (c ∷ rest) = kept_before c (trimmed rest)

-- a line that may ask for a call begins with T, or with a space
abbrev pub may_call : List ℕ → Bool
may_call [] = false
may_call (c ∷ rest) = c == 84 || c == 32

-- only such a line, and one that takes the last call back, may change the machine
abbrev pub may_change : List ℕ → Bool
may_change line = may_call line || bytes_eq line (codes "undo")

-- the path after a word with which a line begins
abbrev pub path_behind : List ℕ → List ℕ → Option (List ℕ)
path_behind word line = if bytes_eq (take (length word) line) word then Some (as_text (drop (length word) line)) else None

-- ---- the machine

-- It stays, or has one entry more, whose lines were written after the text before, or its last call was taken back.
abbrev pub GoesOn : Driven → Driven → List ℕ → List ℕ → Type 0
GoesOn old new before after = (new ≡ old) ⊎ (((step : Step) × TellsEntry old.history new.history step before after) ⊎ TakesBack old new)

-- Its history stays, or has one entry more, or one less.
abbrev pub MayGoOn : History → History → Type 0
MayGoOn old new = (new ≡ old) ⊎ (((step : Step) × Enters old step new) ⊎ ((entry : Entry) × (plays : List Play) × Extends new old entry plays))

-- The call of this step was made: its entry's lines were written, or that the history is full.
pub record Makes (old new : Driven) (step : Step) (before after : List ℕ) : Type 0 where
  pub entry : length old.history.entries ≢ old.limit → TellsEntry old.history new.history step before after
  pub full : length old.history.entries ≡ old.limit → TellsFull old new step before after

-- The step that a line asks for was made; where it asks for none the machine stays.
abbrev pub Does : Driven → Driven → Option Step → List ℕ → List ℕ → Type 0
Does old new (Some step) before after = Makes old new step before after
Does old new None before after = new ≡ old

-- rule: A line's answer is added to what was printed, or nothing is after want of memory. The machine stays, or has one
--   entry more, and these are its lines, or one less. Only `undo` and a line that begins with `T` or a space may change
--   it; the step that the latter asks for, if any, is a function of its bytes, and exactly that call is made. `ps` and
--   `ps all` print the state, an empty line nothing, one with `#` itself, `scenario` the scenario or why there is none.
--   Spaces and carriage returns at a line's end do not matter.
--   also: Sessions.{asked, board, limit, history}; States.state_text; Wholes.whole_text
--   clauses: answer_line; Planned::told; Session::scenario
--   rows: all_that_a_machine_shows_is_told; beginners_are_answered; lines_are_answered; the_state_is_told
-- Lines were written after the text before, and the machine stays, or these are the lines of its one new entry.
pub record Answers (old new : Driven) (before after : List ℕ) : Type 0 where
  pub lines : List ℕ
  pub told : after ≡ before ++ lines
  pub goes_on : GoesOn old new [] lines

-- ---- what is reported

-- a comment is reported as it is, or by its sign where it is no UTF-8
abbrev pub comment_text : List ℕ → List ℕ
comment_text line = (if is_utf8 line then line else codes "#") ++ line_feed

-- what the machine was asked so far
abbrev pub script_of : Driven → Script
script_of driven = script_of_history driven.board driven.limit driven.history.entries

-- It was said why there is no scenario.
abbrev pub TellsUnwritten : Script → List ℕ → List ℕ → Type 0
TellsUnwritten script before after =
    (IsUnwritten unwritten.TooLong script × (after ≡ before ++ codes "! 1: the scenario would have more than 1048576 bytes\n"))
    ⊎ ((IsUnwritten unwritten.Board script ⊎ IsUnwritten unwritten.Limit script) × (after ≡ before ++ codes "! 1: no scenario has this board and limit\n"))

-- The scenario was written, or why there is none.
abbrev pub TellsScenario : Script → List ℕ → List ℕ → Type 0
TellsScenario script before after = (after ≡ before ++ scenario_text script) ⊎ TellsUnwritten script before after

-- a call that was taken back
abbrev pub undone_text : Entry → List ℕ
undone_text entry = codes "undone: T" ++ (decimal entry.caller.0 ++ (codes " " ++ (call_text entry.call ++ line_feed)))

-- The last call was taken back and reported. Or the machine stays: there is no call, or no scenario of those before the last, for the true reason.
abbrev pub Undoes : Driven → Driven → List ℕ → List ℕ → Type 0
Undoes old new before after =
    ((back : TakesBack old new) × (after ≡ before ++ undone_text back.entry))
    ⊎ ((new ≡ old) × (((old.history.entries ≡ []) × (after ≡ before ++ codes "! 1: nothing was asked so far\n"))
    ⊎ TellsUnwritten (script_of_history old.board old.limit (all_but_last old.history.entries)) before after))
