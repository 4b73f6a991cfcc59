-- The lines that warn of what a scenario may have been meant not to do.
use Rattle.std.specs.Prelude.{ℕ, zero, suc, ◌+◌, ◌==◌, Bool, true, false, ◌&&◌, nat_le, nat_lt, List, [], ◌∷◌, ◌++◌, length, codes, decimal, flat_map, slice_get, if◌then◌else◌, Option, Some, None, Result, Ok, Err}
use Rattle.evl_base.specs.Reply.{outcome_text}
use Rattle.evl_base.specs.Stage.{stage_text}
use Rattle.evl_base.specs.declared.board.Board.{Board}
use Rattle.evl_base.specs.declared.call.Call.{Call}
use Rattle.evl_base.specs.declared.call.Call.TheVariants.{Request, NewTimer, TryGet, Put, Peek, BeginGet, TryTake, PostFlags as CallPostFlags, PeekFlags, BeginTake, Write, Read, Room, BeginWrite, BeginRead, Claim, Release, Raise}
use Rattle.evl_base.specs.declared.entry.Entry.{Entry}
use Rattle.evl_base.specs.declared.refusal.Refusal.{Refusal}
use Rattle.evl_base.specs.declared.reply.Reply.{Reply}
use Rattle.evl_base.specs.declared.reply.Reply.TheVariants.{Begun}
use Rattle.evl_base.specs.declared.stage.Stage.{Stage}
use Rattle.evl_base.specs.declared.stage.Stage.TheVariants.{Inband, Oob}
use Rattle.evl_pipeline.specs.Limits.{line_count}
use Rattle.evl_pipeline.specs.declared.action.Action.{Action}
use Rattle.evl_pipeline.specs.declared.action.Action.TheVariants.{PostSem, PostFlags}
use Rattle.evl_pipeline.specs.Lines.{is_pending}
use Rattle.evl_kernel.specs.state.Openings.{can_open, opening}
use Rattle.evl_kernel.specs.state.States.{Handler, State}
use Rattle.evl_kernel.specs.waiting.Waits.{has_ended, is_waiting}
use Rattle.evl_scenario.specs.Lines.{line_feed, step_text}
use Rattle.evl_scenario.specs.Scenarios.{Script}
use Rattle.evl_scenario.specs.Writings.{step_of_entry}
use Rattle.evl_scenario.specs.declared.faults.Fault.{Fault}
use Rattle.evl_scenario.specs.declared.steps.Step.{Step}
use Rattle.evl_shell.specs.Runs.{Moment, Turn, beginning, turn}
use Rattle.lab_warnings.specs.Reasons.{is_odd, odd_text, spurious_so_far}
use Rattle.lab_warnings.specs.Runs.{entries_from, entry_in, state_from}
use Rattle.lab_warnings.specs.declared.counts.Counts.{Counts}
use Rattle.lab_warnings.specs.declared.counts.Element.{Element}
use Rattle.lab_warnings.specs.declared.counts.Element.TheVariants.{OfSem, OfFlags, OfXbuf, OfMutex}
use Rattle.lab_warnings.specs.declared.reasons.Reason.{Reason}
use Rattle.lab_warnings.specs.declared.reasons.Reason.TheVariants.{Merging, Unattached, Unowned, Unpicked}

-- where a warning of a step belongs, in a file of this name
abbrev pub place_text : List ℕ → ℕ → List ℕ
place_text name number = name ++ (codes ": step " ++ (decimal number ++ codes ": warning: "))

-- ---- calls that are refused

-- how many there are of each on a board
abbrev pub counts_of : Board → Counts
counts_of board =
    record {
      threads = board.threads;
      sems = length board.sems.items;
      flags = length board.flags.items;
      xbufs = length board.xbufs.items;
      mutexes = length board.mutexes.items;
    }

-- the element that a call names, and its number
abbrev pub element_named : Call → Option (Element × ℕ)
element_named (TryGet sem) = Some (OfSem, sem.0)
element_named (Put sem) = Some (OfSem, sem.0)
element_named (Peek sem) = Some (OfSem, sem.0)
element_named (BeginGet sem until) = Some (OfSem, sem.0)
element_named (TryTake flags kind) = Some (OfFlags, flags.0)
element_named (CallPostFlags flags bits) = Some (OfFlags, flags.0)
element_named (PeekFlags flags) = Some (OfFlags, flags.0)
element_named (BeginTake flags kind until) = Some (OfFlags, flags.0)
element_named (Write xbuf way bytes) = Some (OfXbuf, xbuf.0)
element_named (Read xbuf way len) = Some (OfXbuf, xbuf.0)
element_named (Room xbuf way) = Some (OfXbuf, xbuf.0)
element_named (BeginWrite xbuf way bytes until) = Some (OfXbuf, xbuf.0)
element_named (BeginRead xbuf way len until) = Some (OfXbuf, xbuf.0)
element_named (Claim mutex owner until) = Some (OfMutex, mutex.0)
element_named (Release mutex) = Some (OfMutex, mutex.0)
element_named (Raise mutex) = Some (OfMutex, mutex.0)
element_named _ = None

-- how many of a kind the board has, where this number is none of them
abbrev pub lack_below : ℕ → ℕ → List ℕ → List ℕ
lack_below count number elements = if nat_lt number count then [] else codes " (the board has " ++ (elements ++ (codes "=" ++ (decimal count ++ codes ")")))

abbrev pub lack_of : Counts → Element → ℕ → List ℕ
lack_of counts OfSem number = lack_below counts.sems number (codes "sems")
lack_of counts OfFlags number = lack_below counts.flags number (codes "flags")
lack_of counts OfXbuf number = lack_below counts.xbufs number (codes "xbufs")
lack_of counts OfMutex number = lack_below counts.mutexes number (codes "mutexes")

abbrev pub lack_named : Counts → Option (Element × ℕ) → List ℕ
lack_named counts None = []
lack_named counts (Some named) = lack_of counts named.0 named.1

-- what the board lacks that a call's thread or the call names
abbrev pub lack_text : Counts → Entry → List ℕ
lack_text counts entry =
    if nat_le counts.threads entry.caller.0 then lack_below counts.threads entry.caller.0 (codes "threads") else lack_named counts (element_named entry.call)

abbrev pub is_refused : Result Reply Refusal → Bool
is_refused (Err refusal) = true
is_refused (Ok reply) = false

abbrev pub reason_text : Entry → List ℕ
reason_text entry = step_text (step_of_entry entry) ++ (codes " is refused: " ++ outcome_text entry.reply)

abbrev pub refused_text : Counts → Entry → List ℕ
refused_text counts entry = reason_text entry ++ (lack_text counts entry ++ line_feed)

abbrev pub refusal_line : List ℕ → Counts → ℕ → Entry → List ℕ
refusal_line name counts number entry = if is_refused entry.reply then place_text name number ++ refused_text counts entry else []

-- ---- the end of the history

-- the first step that found the history full, where fewer have entries than were asked for
abbrev pub full_line : List ℕ → ℕ → ℕ → List ℕ
full_line name made asked =
    if nat_lt made asked
    then place_text name (made + 1) ++ codes "the history is full, so it is refused, as each step behind it: HistoryFull\n"
    else []

-- ---- waits that aren't finished

abbrev pub is_begun : Result Reply Refusal → Bool
is_begun (Ok Begun) = true
is_begun _ = false

abbrev pub begins_wait : ℕ → Entry → Bool
begins_wait thread entry = (entry.caller.0 == thread) && is_begun entry.reply

-- the number of the last entry by which the thread began to wait, after so many others; where there is none, the one that was found before
abbrev pub last_begun : ℕ → ℕ → ℕ → List Entry → ℕ
last_begun thread found count [] = found
last_begun thread found count (entry ∷ rest) = last_begun thread (if begins_wait thread entry then count + 1 else found) (count + 1) rest

abbrev pub wait_text : State → ℕ → List ℕ
wait_text s thread =
    if has_ended s thread
    then codes "the wait of T" ++ (decimal thread ++ codes " has ended, and no finish follows\n")
    else codes "T" ++ (decimal thread ++ codes " waits until the end\n")

abbrev pub wait_line : List ℕ → List Entry → State → ℕ → List ℕ
wait_line name entries s thread = if is_waiting s thread then place_text name (last_begun thread 0 0 entries) ++ wait_text s thread else []

-- those of the threads below one
unfoldable pub wait_lines : List ℕ → List Entry → State → ℕ → List ℕ
wait_lines name entries s zero = []
wait_lines name entries s (suc thread) = wait_lines name entries s thread ++ wait_line name entries s thread

-- ---- events that are pending in the end

abbrev pub pending_text : List ℕ → Stage → ℕ → List ℕ
pending_text name stage line =
    name ++ (codes ": at the end: warning: line " ++ (decimal line ++ (codes " is still pending " ++ (stage_text stage ++ line_feed))))

abbrev pub pending_line : List ℕ → State → Stage → ℕ → List ℕ
pending_line name s stage line = if is_pending s.lines stage line then pending_text name stage line else []

-- those of the lines below one
unfoldable pub pending_lines : List ℕ → State → Stage → ℕ → List ℕ
pending_lines name s stage zero = []
pending_lines name s stage (suc line) = pending_lines name s stage line ++ pending_line name s stage line

-- ---- callbacks that name what the board lacks

-- the step with this number installs a callback that does something with an element, and the board has only so many
abbrev pub missing_text : List ℕ → ℕ → ℕ → List ℕ → ℕ → ℕ → List ℕ → List ℕ
missing_text name number callback does element count elements =
    place_text name number
    ++ (codes "callback " ++ (decimal callback ++ (does ++ (decimal element ++ (codes " (the board has " ++ (elements ++ (codes "=" ++ (decimal count ++ codes ")\n"))))))))

abbrev pub missing_line : List ℕ → ℕ → ℕ → List ℕ → ℕ → ℕ → List ℕ → List ℕ
missing_line name number callback does element count elements =
    if nat_lt element count then [] else missing_text name number callback does element count elements

abbrev pub action_line : List ℕ → Counts → ℕ → ℕ → Action → List ℕ
action_line name counts number callback (PostSem sem) = missing_line name number callback (codes " puts sem ") sem.0 counts.sems (codes "sems")
action_line name counts number callback (PostFlags flags bits) =
    missing_line name number callback (codes " posts to flags ") flags.0 counts.flags (codes "flags")
action_line name counts number callback _ = []

-- of the rows of a plan
abbrev pub row_lines : List ℕ → Counts → ℕ → ℕ → List (ℕ × Action) → List ℕ
row_lines name counts number callback rows = flat_map (λ row. action_line name counts number callback row.1) rows

abbrev pub callback_lines : List ℕ → Counts → ℕ → ℕ → Option Handler → List ℕ
callback_lines name counts number callback None = []
callback_lines name counts number callback (Some handler) = row_lines name counts number callback handler.plan.rows.items

-- the callback that a call installs
abbrev pub callback_of : Call → Option ℕ
callback_of (Request line stage callback tag) = Some callback
callback_of (NewTimer callback tag) = Some callback
callback_of _ = None

abbrev pub installed_lines : List ℕ → Counts → List Handler → ℕ → Option ℕ → List ℕ
installed_lines name counts bank number None = []
installed_lines name counts bank number (Some callback) = callback_lines name counts number callback (slice_get bank callback)

-- ---- a step

-- where a step with this number is odd for this reason, that it is
abbrev pub odd_line : List ℕ → ℕ → State → Step → Reason → List ℕ
odd_line name number s step reason = if is_odd reason s step then place_text name number ++ (step_text step ++ odd_text reason s step) else []

-- every reason for which a step is odd, from what the machine is before it
abbrev pub odd_lines : List ℕ → ℕ → State → Step → List ℕ
odd_lines name number s step = flat_map (odd_line name number s step) (Unpicked ∷ Unattached ∷ Unowned ∷ Merging ∷ [])

-- a call after which more events of its line were spurious than before it
abbrev pub spurious_line : List ℕ → ℕ → ℕ → ℕ → Entry → List ℕ
spurious_line name number before after entry =
    if nat_lt before after
    then place_text name number ++ (step_text (step_of_entry entry) ++ codes " is spurious: no callback is installed for it\n")
    else []

-- what is seen of the entry of a step, and of how many events of its line were spurious before it, in the state after it
abbrev pub entry_lines : List ℕ → Counts → ℕ → ℕ → State → Entry → List ℕ
entry_lines name counts number before s entry =
    refusal_line name counts number entry ++ spurious_line name number before (spurious_so_far s entry.call) entry

-- what is seen of a step with this number, at a moment, by its turn: why it is odd, what its callback names, and its entry
unfoldable pub step_lines : List ℕ → Counts → List Handler → ℕ → State → Step → Turn → List ℕ
step_lines name counts bank number s step t =
    odd_lines name number s step
    ++ (installed_lines name counts bank number (callback_of step.call)
    ++ flat_map (entry_lines name counts number (spurious_so_far s step.call) t.after.state) (entry_in step t))

-- of the steps from a moment on, after so many others, in order
abbrev pub steps_lines : List ℕ → Counts → List Handler → ℕ → ℕ → Moment → List Step → List ℕ
steps_lines name counts bank count limit m [] = []
steps_lines name counts bank count limit m (step ∷ rest) =
    step_lines name counts bank (count + 1) m.state step (turn limit m step) ++ steps_lines name counts bank (count + 1) limit (turn limit m step).after rest

-- ---- all of a scenario

-- what is seen in the end, of so many threads and so many steps
unfoldable pub end_lines : List ℕ → ℕ → ℕ → List Entry → State → List ℕ
end_lines name threads asked entries s =
    full_line name (length entries) asked ++ (wait_lines name entries s threads
    ++ (pending_lines name s Oob line_count ++ pending_lines name s Inband line_count))

-- of the run of steps from a moment on: of each step, and then in the end
unfoldable pub run_lines : List ℕ → Counts → List Handler → ℕ → Moment → List Step → List ℕ
run_lines name counts bank limit m steps =
    steps_lines name counts bank 0 limit m steps
    ++ end_lines name counts.threads (length steps) (entries_from limit m steps) (state_from limit m steps)

-- of a script over these callbacks, which may be more than a kernel has
unfoldable pub script_lines : List ℕ → List Handler → Script → List ℕ
script_lines name bank script =
    if can_open script.board (length bank) script.limit
    then run_lines name (counts_of script.board) bank script.limit (beginning (opening script.board bank)) script.steps
    else []

-- rule: The warnings of a dry run are a function of file name, callbacks and text: of each step in order why it is odd
--   before it is made, what the installed callback's plan names and the board lacks, that it is refused, that its
--   line's event was spurious; then the first step that finds the history full, each unfinished wait, each event
--   pending at the end. It answers whether there is one. Without a scenario, over more than 64 callbacks, or after want
--   of memory nothing is added.
--   also: Reasons.is_odd
--   clauses: warnings; Planned::told
--   rows: a_dry_run_warns; callbacks_of_what_is_not_there_are_warned_of; each_odd_step_is_warned_of;
--   nothing_is_warned_of_a_plain_scenario
-- of what a text is read as; of no script nothing
unfoldable pub warnings_of : List ℕ → List Handler → Result Script Fault → List ℕ
warnings_of name bank (Ok script) = script_lines name bank script
warnings_of name bank (Err fault) = []
