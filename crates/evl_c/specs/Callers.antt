-- C's view of a text of callers: what `lab callers` prints.
use Rattle.std.specs.Prelude.{◌≡◌, ◌⊎◌, ◌-◌, ◌^◌, min, ℕ, List, [], ◌++◌, false, length, map, string_bytes, Option, Some, None, IsSomeAnd}
use Rattle.evl_kernel.specs.state.Openings.{can_open}
use Rattle.evl_kernel.specs.state.States.{Handler}
use Rattle.evl_plans.specs.Told.{handler_of}
use Rattle.evl_plans.specs.declared.planned.Planned.{Planned}
use Rattle.evl_scenario.specs.declared.faults.Fault.{Fault}
use Rattle.evl_scenario.specs.declared.faults.Fault.TheVariants as fault
use Rattle.lab_callers.specs.Faults.{fault_words}
use Rattle.lab_callers.specs.Plays.{IsTold}
use Rattle.lab_callers.specs.declared.passes.StepFault.{StepFault}
use Rattle.lab_callers.specs.declared.playing.Ending.{Ending}
use Rattle.lab_callers.specs.declared.playing.Ending.TheVariants as ending
use Rattle.lab_callers.specs.declared.playing.Played.{Played as Made}
use Rattle.lab_callers_text.specs.Readings.{IsRead, IsRefused}
use Rattle.lab_callers_text.specs.declared.reading.CallersText.{CallersText}
use Rattle.evl_c.specs.Windows.{window}
use Rattle.evl_c.specs.declared.callers.Story.{Story as Telling}
use Rattle.evl_c.specs.declared.plays.Played.{Played}

-- a text, the step at fault, and the status
pub record Story : Type 0 where
  pub text : List ℕ
  pub step : ℕ
  pub status : ℕ

abbrev pub story_in : Telling → Story
story_in told = record { text = string_bytes told.text; step = told.step; status = told.status }

abbrev pub nothing : Played
nothing = record { length = 0; step = 0 }

-- of a fault of a text; of want of memory there is none
abbrev pub fault_ended : Fault → Option Story
fault_ended fault.Text = Some (record { text = []; step = 0; status = 1 })
fault_ended fault.Board = Some (record { text = []; step = 0; status = 2 })
fault_ended (fault.Step number) = Some (record { text = []; step = number; status = 3 })
fault_ended fault.Memory = None
fault_ended fault.Write = None

-- a step that can't be made, and why
abbrev pub stopped : ℕ → StepFault → Story
stopped number e = record { text = fault_words e; step = min number (2 ^ 32 - 1); status = 3 }

-- the lines of all steps, and what closing the machine was answered
abbrev pub whole : Made → Story
whole made = record { text = string_bytes made.lines ++ string_bytes made.closing; step = 0; status = 0 }

abbrev pub ended_by : Made → Ending → Story
ended_by made (ending.Fault number e) = stopped number e
ended_by made _ = whole made

abbrev pub ended : Made → Story
ended made = ended_by made made.ending

-- a text is played over these callbacks
pub record PlaysOver (bank : List Handler) (asked : CallersText) (made : Made) : Type 0 where
  pub plans : List Planned
  pub bank_is : map handler_of plans ≡ bank
  pub is_told : IsTold (λ p. p.kinds.0) (λ p. p.plan) asked plans made

-- or no machine can have its board, these callbacks and its limit
abbrev pub TellsPlayed : List Handler → CallersText → Story → Type 0
TellsPlayed bank asked story =
    ((made : Made) × PlaysOver bank asked made × (story ≡ ended made))
    ⊎ ((can_open asked.board (length bank) asked.limit ≡ false) × (story ≡ record { text = []; step = 0; status = 2 }))

-- what a text asks for, under a limit that may be handed in; or it is refused, for that fault
abbrev pub PlaysCallers : List Handler → Option ℕ → List ℕ → Story → Type 0
PlaysCallers bank limit text story =
    ((asked : CallersText) × IsRead limit text asked × TellsPlayed bank asked story)
    ⊎ ((e : Fault) × IsRefused limit text e × IsSomeAnd (fault_ended e) (λ s. story ≡ s))

-- rule: C's buffer has what `lab callers` prints; or C learns which step cannot be made, with why in words, a fault of
--   the text, or, only if board, bank or limit are outside their limits, that no machine has its board.
--   also: Callers.{PlaysCallers, ended}
--   clauses: evlsim_c_callers
-- C gets this, or memory ran out, and C gets the status alone
abbrev pub TellsCallers : List Handler → Option ℕ → List ℕ → ℕ → List ℕ → List ℕ → Played → ℕ → Type 0
TellsCallers bank limit text start old new played status =
    ((story : Story) × PlaysCallers bank limit text story × (new ≡ window story.text start old)
    × (played ≡ record { length = length story.text; step = story.step }) × (status ≡ story.status))
    ⊎ ((new ≡ old) × (played ≡ nothing) × (status ≡ 4))
