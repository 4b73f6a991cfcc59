-- The drawing of a text of callers: the lines that its run prints, and the scenario of the calls that were entered.
use Rattle.std.specs.Prelude.{◌≡◌, ◌≢◌, ℕ, ⊤, false, List, length, map, string_bytes, Option, Some, None, Ok}
use Rattle.evl_base.specs.declared.board.Board.{Board}
use Rattle.evl_kernel.specs.state.KernelViews.{KernelView}
use Rattle.evl_kernel.specs.state.Openings.{can_open}
use Rattle.evl_kernel.specs.state.States.{Handler}
use Rattle.evl_plans.specs.Told.{handler_of}
use Rattle.evl_plans.specs.declared.planned.Planned.{Planned}
use Rattle.evl_scenario.specs.Scenarios.{scenario_of}
use Rattle.evl_scenario.specs.Writings.{IsUnwritten, script_of_history, without_staxes}
use Rattle.evl_scenario.specs.declared.writing.Unwritten.{Unwritten}
use Rattle.evl_scenario.specs.declared.writing.Unwritten.TheVariants as unwritten
use Rattle.lab_callers.specs.Plays.{IsKept}
use Rattle.lab_callers.specs.declared.passes.StepFault.{StepFault}
use Rattle.lab_callers.specs.declared.playing.Ending.{Ending}
use Rattle.lab_callers.specs.declared.playing.Ending.TheVariants as ending
use Rattle.lab_callers.specs.declared.playing.Played.{Played}
use Rattle.lab_callers_text.specs.Readings.{IsRead, IsRefused}
use Rattle.lab_callers_text.specs.declared.reading.CallersText.{CallersText}
use Rattle.lab_caller_pictures.specs.declared.plays.CallersRun.{CallersRun}
use Rattle.lab_caller_pictures.specs.declared.plays.Entered.{Entered}
use Rattle.lab_caller_pictures.specs.declared.plays.Unplayed.{Unplayed}
use Rattle.lab_caller_pictures.specs.declared.plays.Unplayed.TheVariants as why

-- what a text of callers asks for is played over these callbacks: what is printed, how many calls had been entered by the end of each step, and the kernel that is left
pub record PlaysKept (bank : List Handler) (asked : CallersText) (told : Played) (entered : List ℕ) (left : Option (KernelView Planned)) : Type 0 where
  pub plans : List Planned
  pub bank_is : map handler_of plans ≡ bank
  pub is_kept : IsKept (λ p. p.kinds.0) (λ p. p.plan) asked plans told entered left

-- the scenario of all calls that a kernel entered, and how many had been entered by the end of each step
pub record IsEntered (board : Board) (limit : ℕ) (entered : List ℕ) (k : KernelView Planned) (known : Entered) : Type 0 where
  pub scenario : scenario_of None (string_bytes known.scenario) ≡ Ok (script_of_history board limit k.history.entries)
  pub counts : known.counts.items ≡ entered

-- what is known of the calls: of a kernel that is left, where a scenario can be written of them
abbrev pub IsKnown : Board → ℕ → List ℕ → Option (KernelView Planned) → Option Entered → Type 0
IsKnown board limit entered None None = ⊤
IsKnown board limit entered None (Some known) = ⊥
IsKnown board limit entered (Some k) (Some known) = IsEntered board limit entered k known
IsKnown board limit entered (Some k) None = (e : Unwritten) × (e ≢ unwritten.Memory) × IsUnwritten e (script_of_history board limit k.history.entries)

-- all steps could be made
abbrev pub AllMade : Ending → Type 0
AllMade (ending.Fault number fault) = ⊥
AllMade _ = ⊤

-- why nothing is drawn where steps ended so
abbrev pub EndsFor : Ending → Unplayed → Type 0
EndsFor (ending.Fault number fault) reason = reason ≡ why.Step number fault
EndsFor _ reason = reason ≡ why.Memory

-- what is drawn of what a text asks for: its lines, and what is known of the calls over its board without staxes
pub record IsRunBy (bank : List Handler) (asked : CallersText) (run : CallersRun) : Type 0 where
  pub told : Played
  pub entered : List ℕ
  pub left : Option (KernelView Planned)
  pub plays : PlaysKept bank asked told entered left
  pub made : AllMade told.ending
  pub lines : string_bytes run.lines ≡ string_bytes told.lines
  pub known : IsKnown (without_staxes asked.board) asked.limit entered left run.entered

-- rule: A text of callers is played over copies of callbacks, and shown by its lines. If a machine is closed and a
--   scenario can hold its history, the scenario of all calls that were entered is known, over the text's board without
--   staxes, and how many they were after each step. A text, a board or a step that is refused is reported apart.
--   also: Runs.IsWhyOf; Plays.IsKept
--   clauses: play_drawn; play_kept
-- of a text
abbrev pub IsRunOf : List Handler → List ℕ → CallersRun → Type 0
IsRunOf bank text run = (asked : CallersText) × IsRead None text asked × IsRunBy bank asked run

-- the step of this number can't be made
pub record StopsAt (bank : List Handler) (asked : CallersText) (number : ℕ) (fault : StepFault) : Type 0 where
  pub told : Played
  pub entered : List ℕ
  pub left : Option (KernelView Planned)
  pub plays : PlaysKept bank asked told entered left
  pub stops : told.ending ≡ ending.Fault number fault

-- why nothing is drawn of what a text asks for: no machine can have its board, these callbacks and its limit, or a step can't be made
abbrev pub IsWhyBy : List Handler → CallersText → Unplayed → Type 0
IsWhyBy bank asked why.Board = can_open asked.board (length bank) asked.limit ≡ false
IsWhyBy bank asked (why.Step number fault) = StopsAt bank asked number fault
IsWhyBy bank asked (why.Text fault) = ⊥
IsWhyBy bank asked why.Memory = ⊤

-- of a text, which may be refused itself
abbrev pub IsWhyOf : List Handler → List ℕ → Unplayed → Type 0
IsWhyOf bank text (why.Text fault) = IsRefused None text fault
IsWhyOf bank text why.Memory = ⊤
IsWhyOf bank text reason = (asked : CallersText) × IsRead None text asked × IsWhyBy bank asked reason
