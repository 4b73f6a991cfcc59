-- The callers of a text, with their calls.
use Rattle.std.specs.Prelude.{◌≡◌, ◌≤◌, ◌<◌, ◌⊎◌, ℕ, Bool, true, false, List, [], drop, length, Some, None, Ok, Err, map, min, slice_get, take}
use Rattle.std.specs.List.{list_all}
use Rattle.std.specs.Str.{is_utf8}
use Rattle.std.specs.Str.Lines.{lines}
use Rattle.evl_base.specs.declared.mutex_kind.MutexKind.{MutexKind}
use Rattle.evl_base.specs.declared.mutex_kind.MutexKind.TheVariants.{Normal, Recursive, Ceiling}
use Rattle.evl_scenario.specs.declared.faults.Fault.TheVariants as fault
use Rattle.lab_callers_text.specs.Readings as texts
use Rattle.lab_callers_text.specs.Readings.{IsRead}
use Rattle.lab_callers_text.specs.declared.acts.CallersStep.{CallersStep}
use Rattle.lab_callers_text.specs.declared.reading.CallersText.{CallersText}
use Rattle.lab_scenario_orders.specs.Splits.{is_mixed, scenario_part, setup_count}
use Rattle.lab_step_orders.specs.declared.crews.Crew.{Crew}
use Rattle.lab_step_orders.specs.declared.crews.CrewCaller.{CrewCaller}
use Rattle.lab_step_texts.specs.Calls.{attaches, calls_behind, kernel_step, own_calls, stage_in, unattached}
use Rattle.lab_step_orders.specs.declared.steps.CoreUse.{CoreUse}
use Rattle.lab_step_texts.specs.Extras.{own_ways, plain_part, strange_line, stray_line, ways_part, wrong_part}
use Rattle.lab_step_texts.specs.Questions.{AreAsked, IsUnasked, are_there}
use Rattle.lab_step_texts.specs.declared.calls.CallerCall.{CallerCall}
use Rattle.lab_step_texts.specs.declared.extras.Extras.{Extras}
use Rattle.lab_step_texts.specs.declared.faults.StepFault.TheVariants.{Setup}
use Rattle.lab_step_texts.specs.declared.faults.StepsFault.{StepsFault}
use Rattle.lab_step_texts.specs.declared.faults.StepsFault.TheVariants.{Text, Mixed, Mutex, Limit, Step, WhatIf, Lasts, Question, Facts, Lacking}

-- a mutex that neither nests nor has a ceiling
abbrev pub is_plain : MutexKind → Bool
is_plain Normal = true
is_plain Recursive = false
is_plain (Ceiling prio) = false

-- a thread on its stage, with its own calls among these, which come by the core in these ways
abbrev pub caller_of : List CallersStep → List CallersStep → List CoreUse → List CallerCall → ℕ → CrewCaller → Type 0
caller_of setup steps ways calls k caller =
    (caller.stage ≡ stage_in k setup) × (caller.calls.items ≡ own_calls k calls) × (caller.uses.items ≡ own_ways k ways 0 steps)

-- the callers are the threads of the board, with the calls that all steps but those that are set up are
pub record IsCrewOf (extras : Extras) (read : CallersText) (count : ℕ) (crew : Crew) : Type 0 where
  pub plain : list_all is_plain read.board.mutexes.items ≡ true
  pub room : length read.steps.items ≤ read.limit
  pub attached : unattached read.board.threads 1 [] (take count read.steps.items) ≡ None
  pub calls : List CallerCall
  pub are : calls_behind read.board.threads count read.steps.items ≡ Ok calls
  pub board : crew.board ≡ read.board
  pub limit : crew.limit ≡ read.limit
  pub setup : crew.setup.items ≡ attaches (take count read.steps.items)
  pub steps : crew.steps.items ≡ map kernel_step read.steps.items
  pub each : length crew.callers.items ≡ read.board.threads
  pub callers : (k : ℕ) (caller : CrewCaller) → slice_get crew.callers.items k ≡ Some caller → caller_of (take count read.steps.items) (drop count read.steps.items) extras.ways.items calls k caller
  pub what_if : crew.what_if ≡ extras.what_if

-- the crew of a scenario of callers, of which so many steps are set up, as far as it has them
abbrev pub set_up : ℕ → CallersText → ℕ
set_up count read = min count (length read.steps.items)

pub record IsReadOf (extras : Extras) (scenario : List ℕ) (count : ℕ) (crew : Crew) : Type 0 where
  pub read : CallersText
  pub is_read : IsRead None scenario read
  pub crew_of : IsCrewOf extras read (set_up count read) crew

-- the parts of a text of steps
pub record AreExtras (text : List ℕ) (extras : Extras) : Type 0 where
  pub ways : extras.ways.items ≡ ways_part text
  pub what_if : extras.what_if ≡ wrong_part text

-- rule: A text is one of callers but for what is set up, what is asked, how steps come by the core, and a wrong step.
--   Its callers are the board's threads, each with the calls that its steps are; a pass unlocks what its caller's last
--   step before with that name went to. It is refused only for the first step that is no call on words, for one that is
--   set up and is no `attach`, for more steps than the limit, for a mutex with another way, for the first line of
--   `[what_if]` that names no wrong step or a second one, for the first that sets `lasts` outside a step or once more
--   in one, or where it is no text of callers (for that fault).
--   also: Crews.IsRefused; Calls.{call_of, unattached, stage_in}; Extras.{plain_part, strange_line, stray_line,
--   ways_part, wrong_part}; Kinds.asks_steps
--   clauses: read_steps; asks_steps; StepFault::words
-- the crew of a text: that of its text of callers
pub record IsReadAs (text : List ℕ) (crew : Crew) : Type 0 where
  pub clear : strange_line text ≡ None
  pub lasts : stray_line text ≡ None
  pub unmixed : is_mixed (lines (plain_part text)) ≡ false
  pub extras : Extras
  pub are : AreExtras text extras
  pub is_of : IsReadOf extras (scenario_part (plain_part text)) (setup_count (plain_part text)) crew
  -- its questions are those of the text, and name what the board has
  pub asked : AreAsked false (lines text) crew.watches.items
  pub there : are_there crew.board crew.watches.items ≡ true

-- Why a text of callers that was read isn't gone through.
abbrev pub IsKept : CallersText → ℕ → StepsFault → Type 0
IsKept read count (Text e) = e ≡ fault.Memory
IsKept read count Mixed = ⊥
IsKept read count (WhatIf line) = ⊥
IsKept read count (Lasts line) = ⊥
IsKept read count (Question line) = ⊥
IsKept read count (Facts line unread) = ⊥
IsKept read count (Lacking line) = ⊥
IsKept read count Mutex = list_all is_plain read.board.mutexes.items ≡ false
IsKept read count Limit = read.limit < length read.steps.items
IsKept read count (Step n why) =
    ((why ≡ Setup) × (unattached read.board.threads 1 [] (take count read.steps.items) ≡ Some n)) ⊎ (calls_behind read.board.threads count read.steps.items ≡ Err (n, why))

-- why a scenario of callers isn't: it is refused, for that fault (want of memory among them); or it is read, and there is a reason
abbrev pub IsKeptOf : List ℕ → ℕ → StepsFault → Type 0
IsKeptOf scenario count (Text e) = texts.IsRefused None scenario e
IsKeptOf scenario count why = (read : CallersText) × IsRead None scenario read × IsKept read (set_up count read) why

-- or these lines ask something else of its moments
abbrev pub IsStopped : List (List ℕ) → List ℕ → ℕ → StepsFault → Type 0
IsStopped all scenario count (Question line) = (read : CallersText) × IsRead None scenario read × IsUnasked read.board all (Question line)
IsStopped all scenario count (Facts line unread) = (read : CallersText) × IsRead None scenario read × IsUnasked read.board all (Facts line unread)
IsStopped all scenario count (Lacking line) = (read : CallersText) × IsRead None scenario read × IsUnasked read.board all (Lacking line)
IsStopped all scenario count why = IsKeptOf scenario count why

-- or a line of its own asks for something else
abbrev pub IsUnplain : Extras → StepsFault → Type 0
IsUnplain extras (WhatIf line) = extras.strange ≡ Some line
IsUnplain extras (Lasts line) = extras.stray ≡ Some line
IsUnplain extras why = ⊥

-- why a text isn't
abbrev pub IsRefused : List ℕ → StepsFault → Type 0
IsRefused text (Text e) =
    (e ≡ fault.Memory)
    ⊎ (((e ≡ fault.Text) × (is_utf8 text ≡ false)) ⊎ IsStopped (lines text) (scenario_part (plain_part text)) (setup_count (plain_part text)) (Text e))
IsRefused text Mixed = is_mixed (lines (plain_part text)) ≡ true
IsRefused text (WhatIf line) = strange_line text ≡ Some line
IsRefused text (Lasts line) = stray_line text ≡ Some line
IsRefused text why = IsStopped (lines text) (scenario_part (plain_part text)) (setup_count (plain_part text)) why
