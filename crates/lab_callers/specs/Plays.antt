-- The reports of the steps of a text of callers, one after another.
use Rattle.std.specs.Prelude.{◌≡◌, ◌+◌, ℕ, ⊤, List, [], ◌∷◌, ◌++◌, codes, length, Option, Some, None, is_some, Result, Ok, Err, string_bytes}
use Rattle.evl_base.specs.declared.refusal.Refusal.{Refusal}
use Rattle.lab_callers.specs.Answers.{Makes}
use Rattle.lab_callers.specs.Crews.{CrewState, crew_of, holder_of}
use Rattle.lab_callers.specs.Faults.{step_fault}
use Rattle.lab_callers.specs.Holdings.{Holdings, nothing_held}
use Rattle.lab_callers.specs.Shown.{closed_text, mutex_asked, open_text, shown_text, step_text, thread_asked}
use Rattle.lab_callers.specs.Reports.{ReportState}
use Rattle.lab_callers.specs.Views.{Looks}
use Rattle.lab_callers.specs.declared.answers.Stop.{Stop}
use Rattle.lab_callers.specs.declared.answers.Stop.TheVariants as stop
use Rattle.lab_callers.specs.declared.passes.StepFault.{StepFault}
use Rattle.lab_callers.specs.declared.playing.Ending.{Ending}
use Rattle.lab_callers.specs.declared.playing.Ending.TheVariants as ending
use Rattle.lab_callers.specs.declared.playing.Played.{Played}
use Rattle.lab_callers.specs.declared.views.Question.{Question}
use Rattle.lab_callers.specs.declared.views.Shows.{Shows}
use Rattle.lab_callers.specs.declared.views.View.{View}
use Rattle.lab_callers_text.specs.declared.acts.CallersStep.{CallersStep}
use Rattle.lab_callers_text.specs.declared.reading.CallersText.{CallersText}
use Rattle.evl_kernel.specs.state.KernelViews.{IsOpened, KernelView}
use Rattle.evl_machine.specs.calls.Closings.{Closes, KeepsOpen}
use Rattle.evl_machine.specs.callers.Handles.{CallerState, MachineState, newcomers_of}
use Rattle.evl_pipeline.specs.declared.plan.Plan.{Plan}
use Rattle.evl_scenario.specs.Lines.{board_line_of, board_line_text, line_feed, play_lines}

-- the callers, what names hold and who waits, how many staxes the board has, how many plays were written, and how many calls of the kernel were entered after each step
pub record Run (C : Type 0) : Type 0 where
  pub crew : CrewState C
  pub holdings : Holdings
  pub staxes : ℕ
  pub plays : ℕ
  pub entered : List ℕ

abbrev pub run_of : {C : Type 0} → CrewState C → ReportState → Run C
run_of crew report = record { crew = crew; holdings = report.holdings; staxes = report.staxes; plays = report.plays; entered = report.entered }

-- before the first step nobody has the core, no name holds a pass, nobody waits, no play was written, and no call was entered
abbrev pub start_at : {C : Type 0} → MachineState C → List (CallerState C) → ℕ → Run C
start_at machine callers staxes = record { crew = crew_of machine callers; holdings = nothing_held; staxes = staxes; plays = 0; entered = [] }

abbrev pub whose : {C : Type 0} → CrewState C → Option ℕ
whose crew = holder_of (is_some crew.held) crew.holder

-- rule: After an answer comes what the caller that then has the kernel (else the step's own) sees of what the step went
--   to: a mutex's word (exactly if the board has it), which agrees with the record and is what some word tied to it
--   says; the stage of a stax's first holder and how many names hold its passes; who has the core. Below are exactly
--   the plays not yet shown.
--   also: Shown.shown_text; Views.{Looks, Sees}
--   clauses: play_callers
--   rows: handler_in_a_take; words_stand_as_they_were_shown
-- After an answer comes what the step went to, as it is seen then by who has the kernel, and the plays that weren't written below it
pub record ShowsAfter {C : Type 0} (old : Run C) (who : ℕ) (told : List ℕ) (shown : Shows) (text : List ℕ) (new : Run C) : Type 0 where
  pub question : Question
  pub view : View
  pub mutex : question.mutex ≡ mutex_asked shown
  pub thread : question.thread ≡ thread_asked old.holdings shown
  pub counted : question.plays ≡ old.plays
  pub looked : Looks old.crew who question view new.crew
  pub holdings : new.holdings ≡ old.holdings
  pub staxes : new.staxes ≡ old.staxes
  pub plays : new.plays ≡ view.made
  pub entered : new.entered ≡ old.entered ++ view.entered ∷ []
  pub text_is : text ≡ codes " -> " ++ (told ++ (shown_text old.staxes old.holdings (whose new.crew) view shown ++ (line_feed ++ play_lines view.plays.items)))

-- the step of this number is made, and reported by these lines
pub record MakesStep {C : Type 0} (limit : ℕ) (old : Run C) (number : ℕ) (step : CallersStep) (lines : List ℕ) (new : Run C) : Type 0 where
  pub told : List ℕ
  pub shown : Shows
  pub made : CrewState C
  pub has : Holdings
  pub makes : Makes limit step.act old.crew old.holdings step.who told shown made has
  pub behind : List ℕ
  pub shows : ShowsAfter (record { crew = made; holdings = has; staxes = old.staxes; plays = old.plays; entered = old.entered }) step.who.0 told shown behind new
  pub lines_is : lines ≡ step_text number step ++ behind

-- these steps are made one after another, from this number on
abbrev pub MakesAll : {C : Type 0} → ℕ → Run C → ℕ → List CallersStep → List ℕ → Run C → Type 0
MakesAll limit old number [] lines new = (lines ≡ []) × (new ≡ old)
MakesAll limit old number (step ∷ rest) lines new = (mid : Run _) × (own others : List ℕ)
    × MakesStep limit old number step own mid × MakesAll limit mid (number + 1) rest others new × (lines ≡ own ++ others)

-- so many of these steps are made and reported after a text, and these are left
pub record HaveMade {C : Type 0} (limit : ℕ) (start : Run C) (steps : List CallersStep) (before text : List ℕ) (now : Run C) (number : ℕ) (left : List CallersStep) : Type 0 where
  pub done : List CallersStep
  pub lines : List ℕ
  pub steps_are : steps ≡ done ++ left
  pub number_is : number ≡ length done
  pub text_is : text ≡ before ++ lines
  pub made : MakesAll limit start 1 done lines now

-- rule: The steps end early only at one that cannot be made, for exactly what is wrong with its name or, if nothing is,
--   with its caller; or memory ran out, which no step's answer shows. The thread that has the core makes no step on a
--   stax or mutex and no take.
--   also: Faults.step_fault; Crews.{Steps, GetsCore}
--   clauses: play_callers; StepFault::words
--   rows: core_is_elsewhere; name_holds_nothing
-- the step of this number can't be made, for this reason: all before it are
pub record StopsAt {C : Type 0} (limit : ℕ) (start : Run C) (steps : List CallersStep) (before text : List ℕ) (number : ℕ) (fault : StepFault) : Type 0 where
  pub now : Run C
  pub count : ℕ
  pub step : CallersStep
  pub rest : List CallersStep
  pub number_is : number ≡ count + 1
  pub made : HaveMade limit start steps before text now count (step ∷ rest)
  pub why : step_fault step.act now.crew now.holdings step.who.0 ≡ Some fault

abbrev pub StopsFor : {C : Type 0} → ℕ → Run C → List CallersStep → List ℕ → List ℕ → ℕ → Stop → Type 0
StopsFor limit start steps before text number (stop.Fault fault) = StopsAt limit start steps before text number fault
StopsFor limit start steps before text number stop.Memory = ⊤

-- a step that can't be made has no line
abbrev pub LeavesText : Stop → List ℕ → List ℕ → Type 0
LeavesText (stop.Fault fault) old new = new ≡ old
LeavesText stop.Memory old new = ⊤

-- what is reported of steps that end before the last one
abbrev pub IsStopped : ℕ → Stop → Played → Type 0
IsStopped number (stop.Fault fault) told = (told.ending ≡ ending.Fault number fault) × (string_bytes told.closing ≡ [])
IsStopped number stop.Memory told = ⊥

-- all steps are made, so many calls of the kernel were entered after each, and these callers haven't the core then
pub record MakesEach {C : Type 0} (limit : ℕ) (start : Run C) (steps : List CallersStep) (before text : List ℕ) (callers : List (CallerState C)) (entered : List ℕ) : Type 0 where
  pub last : Run C
  pub made : HaveMade limit start steps before text last (length steps) []
  pub callers_are : callers ≡ last.crew.callers
  pub entered_is : entered ≡ last.entered

-- rule: At last the callers that do not have the core close the machine; the answer is shown and, once closed, the
--   history as a trace.
--   clauses: play_callers
-- a machine is closed, and its kernel is left, or isn't, and this is reported of it
abbrev pub ClosesSo : {C : Type 0} → MachineState C → List (CallerState C) → Ending → List ℕ → Option (KernelView C) → Type 0
ClosesSo machine callers ending.Closed told left = (k : KernelView _) × Closes machine callers k × (told ≡ closed_text k.history) × (left ≡ Some k)
ClosesSo machine callers (ending.Open refusal) told left = (back : List (CallerState _)) × KeepsOpen machine callers refusal back × (told ≡ open_text refusal) × (left ≡ None)
ClosesSo machine callers (ending.Fault number fault) told left = ⊥

-- how the steps end: all are made, and the machine's close is reported; or one can't be made
abbrev pub EndsSo : {C : Type 0} → MachineState C → Run C → List CallersStep → List ℕ → Ending → List ℕ → List ℕ → List ℕ → Option (KernelView C) → Type 0
EndsSo machine start steps before (ending.Fault number fault) lines closing entered left = StopsAt machine.first.limit start steps before lines number fault × (closing ≡ []) × (left ≡ None)
EndsSo machine start steps before closes lines closing entered left = (callers : List (CallerState _)) × MakesEach machine.first.limit start steps before lines callers entered × ClosesSo machine callers closes closing left

-- The report of a text of callers: the line of its board, and of a machine that is made over it what its new callers do, step by
-- step; how many calls of the kernel were entered after each step, and the kernel that a closed machine leaves
pub record IsKept {C : Type 0} (declared : C → ℕ) (plan : C → Plan) (text : CallersText) (bank : List C) (told : Played) (entered : List ℕ) (left : Option (KernelView C)) : Type 0 where
  pub machine : MachineState C
  pub opened : IsOpened declared plan text.board bank text.limit machine.first
  pub ends : EndsSo machine (start_at machine (newcomers_of machine text.board.threads) (length text.board.staxes.items)) text.steps.items (board_line_text (board_line_of text.board text.limit)) told.ending (string_bytes told.lines) (string_bytes told.closing) entered left

-- rule: Each step's answer is that of the machine's call that its word names, by its thread's caller, over a machine of
--   that board, limit and callbacks; no other caller changes. Each step made has its line. `Range` comes exactly if
--   board, bank or limit are outside their limits; the only other refusal is `NoMemory`.
--   also: Plays.MakesAll; Answers.Makes; Openings.can_open
--   clauses: play_callers
-- only what is reported
abbrev pub IsTold : {C : Type 0} → (C → ℕ) → (C → Plan) → CallersText → List C → Played → Type 0
IsTold declared plan text bank told = (entered : List ℕ) × (left : Option (KernelView _)) × IsKept declared plan text bank told entered left
