-- Why a step may not be what was meant.
use Rattle.std.specs.Prelude.{ℕ, ◌==◌, Bool, true, false, not, ◌&&◌, nat_lt, List, [], ◌++◌, codes, decimal, is_none, is_some, if◌then◌else◌, Option, Some, None, option_and_then}
use Rattle.evl_base.specs.Stage.{stage_text}
use Rattle.evl_base.specs.declared.call.Call.{Call}
use Rattle.evl_base.specs.declared.call.Call.TheVariants.{Arrive, BeginGet, BeginRead, BeginTake, BeginWrite, Claim, Post, Release, Tick}
use Rattle.evl_base.specs.declared.stage.Stage.{Stage}
use Rattle.evl_base.specs.declared.stage.Stage.TheVariants.{Inband, Oob}
use Rattle.evl_pipeline.specs.Counts.{count_at}
use Rattle.evl_pipeline.specs.Lines.{is_pending}
use Rattle.evl_sched.specs.Picks.{picked}
use Rattle.evl_sched.specs.Threads.{is_attached, is_oob, stage_of}
use Rattle.evl_mutex.specs.Owners.{owner_at}
use Rattle.evl_kernel.specs.calls.MutexEffects.{record_at}
use Rattle.evl_kernel.specs.calls.ThreadCalls.{rank_of}
use Rattle.evl_kernel.specs.state.States.{State}
use Rattle.evl_kernel.specs.waiting.Waits.{is_waiting}
use Rattle.evl_scenario.specs.declared.steps.Step.{Step}
use Rattle.lab_warnings.specs.declared.reasons.Reason.{Reason}
use Rattle.lab_warnings.specs.declared.reasons.Reason.TheVariants.{Merging, Unattached, Unowned, Unpicked}

-- ---- who is picked meanwhile

-- the call is its thread's own, and not what happens around it
abbrev pub is_of_thread : Call → Bool
is_of_thread (Arrive line) = false
is_of_thread (Tick delta) = false
is_of_thread (Post stage line) = false
is_of_thread _ = true

-- its thread makes the step while it runs out-of-band
abbrev pub runs_oob : State → Step → Bool
runs_oob s step = is_of_thread step.call && (not (is_waiting s step.who.0) && is_oob (stage_of s.sched step.who.0))

abbrev pub other_than : ℕ → ℕ → Option ℕ
other_than who thread = if thread == who then None else Some thread

-- who is picked while an out-of-band thread makes this step, where that is somebody else
abbrev pub picked_instead : State → Step → Option ℕ
picked_instead s step = if runs_oob s step then option_and_then (other_than step.who.0) (picked (rank_of s) s.sched) else None

-- ---- events

-- the stage on which an event of this line is pending, the out-of-band one first
abbrev pub pending_on_either : State → ℕ → Option Stage
pending_on_either s line = if is_pending s.lines Oob line then Some Oob else (if is_pending s.lines Inband line then Some Inband else None)

-- this stage, where an event of this line is pending there
abbrev pub pending_on : State → Stage → ℕ → Option Stage
pending_on s stage line = if is_pending s.lines stage line then Some stage else None

-- the stage on which an event is pending already of the line that gets one by this call; an interrupt may be for either
abbrev pub pending_already : State → Call → Option Stage
pending_already s (Arrive line) = pending_on_either s line.0
pending_already s (Post stage line) = pending_on s stage line.0
pending_already s _ = None

-- how many events were spurious so far of the line that gets one by this call
abbrev pub spurious_so_far : State → Call → ℕ
spurious_so_far s (Arrive line) = count_at s.lines.spurious line.0
spurious_so_far s (Post stage line) = count_at s.lines.spurious line.0
spurious_so_far s _ = 0

-- ---- waits and mutexes

abbrev pub is_wait : Call → Bool
is_wait (BeginGet sem until) = true
is_wait (BeginTake flags kind until) = true
is_wait (BeginWrite xbuf way bytes until) = true
is_wait (BeginRead xbuf way len until) = true
is_wait (Claim mutex owner until) = true
is_wait _ = false

abbrev pub is_unowned : State → ℕ → Bool
is_unowned s mutex = is_none (owner_at (record_at s mutex))

-- the call releases a mutex that nobody has
abbrev pub releases_unowned : State → Call → Bool
releases_unowned s (Release mutex) = is_unowned s mutex.0
releases_unowned s _ = false

-- ---- the reasons

-- A step is odd, from what the machine is before it: a row for each reason.
abbrev pub is_odd : Reason → State → Step → Bool
is_odd Unpicked s step = is_some (picked_instead s step)
is_odd Unattached s step = is_wait step.call && not (is_attached s.sched step.who.0)
is_odd Unowned s step = releases_unowned s step.call
is_odd Merging s step = is_some (pending_already s step.call)

abbrev pub picked_text : Option ℕ → List ℕ
picked_text None = []
picked_text (Some other) = codes " while T" ++ (decimal other ++ codes " is picked\n")

abbrev pub merging_text : Option Stage → List ℕ
merging_text None = []
merging_text (Some stage) = codes ", which is pending " ++ (stage_text stage ++ codes " already: events of a line merge there\n")

-- what is said of it, after the step
abbrev pub odd_text : Reason → State → Step → List ℕ
odd_text Unpicked s step = picked_text (picked_instead s step)
odd_text Unattached s step = codes ", and its thread is not attached\n"
odd_text Unowned s step = codes ", which nobody has\n"
odd_text Merging s step = merging_text (pending_already s step.call)
