-- The states of a picture's lanes at a state of the kernel.
use Rattle.std.specs.Prelude.{ℕ, zero, suc, ◌+◌, ◌==◌, ◌&&◌, not, Bool, false, Option, Some, None, option_and_then, option_map, if◌then◌else◌}
use Rattle.std.specs.Option.{option_map_or, option_or}
use Rattle.evl_base.specs.declared.stage.Stage.{Stage}
use Rattle.evl_base.specs.declared.stage.Stage.TheVariants.{Oob}
use Rattle.evl_base.specs.Limits.{thread_limit}
use Rattle.evl_pipeline.specs.Limits.{line_count}
use Rattle.evl_pipeline.specs.Lines.{is_pending, side}
use Rattle.evl_clock.specs.Clocks.{timer_at}
use Rattle.evl_clock.specs.Timers.{date_of}
use Rattle.evl_sched.specs.Picks.{picked}
use Rattle.evl_base.specs.declared.policy.Policy.{Policy}
use Rattle.evl_sched.specs.Threads.{is_attached, is_oob, is_ready, seat_at, stage_of}
use Rattle.evl_mutex.specs.Chains.{reaches}
use Rattle.evl_mutex.specs.Owners.{owner_at}
use Rattle.evl_kernel.specs.calls.MutexEffects.{record_at}
use Rattle.evl_kernel.specs.declared.waits.Awaited.{Awaited}
use Rattle.evl_kernel.specs.declared.waits.Awaited.TheVariants as awaited
use Rattle.evl_kernel.specs.state.States.{State}
use Rattle.evl_kernel.specs.waiting.Waits.{has_ended, has_timed_out, wait_at}
use Rattle.evl_kernel.specs.calls.ThreadCalls.{rank_of}
use Rattle.lab_drawing.specs.Ranks.{own_rank}
use Rattle.lab_drawing.specs.declared.lanes.Lane.{Lane}
use Rattle.lab_drawing.specs.declared.lanes.Lane.TheVariants.{Thread, Mutex, Timer, Clock, Line, Stage as OfStage}
use Rattle.lab_drawing.specs.declared.moments.Condition.{Condition}
use Rattle.lab_drawing.specs.declared.moments.Condition.TheVariants.{Inband, Blocked, Ready, Picked, Stalled, Pending, Owned, Handed, Runs}
use Rattle.lab_drawing.specs.declared.moments.Standing.{Standing}

abbrev pub is_picked : State → ℕ → Bool
is_picked s thread = option_map_or (λ t. t == thread) (picked (rank_of s) s.sched) false

-- of an attached thread
abbrev pub condition : State → ℕ → Condition
condition s thread =
    if is_picked s thread then Picked
    else if is_ready s.sched thread then Ready
    else if is_oob (stage_of s.sched thread) then Blocked
    else Inband

-- a lane in a condition, with the rank of a thread, the owner of a mutex, or how many events are pending on a stage
abbrev pub standing : Lane → Condition → Option ℕ → Standing
standing lane how number = record { lane = lane; condition = how; number = number; policy = None; lender = None }

-- the policy of a thread
abbrev pub policy_at : State → ℕ → Option Policy
policy_at s thread = option_map (λ seat. seat.policy) (seat_at s.sched thread)

-- ---- ranks that are lent

-- the recorded owner of the mutex that a thread waits for
abbrev pub owner_awaited : State → Awaited → Option ℕ
owner_awaited s (awaited.Mutex id) = owner_at (record_at s id.0)
owner_awaited s _ = None

abbrev pub next_owner : State → ℕ → Option ℕ
next_owner s thread = if has_ended s thread then None else option_and_then (λ w. owner_awaited s w.on) (wait_at s thread)

-- a thread has this rank by its own policy
abbrev pub has_own : State → ℕ → ℕ → Bool
has_own s thread rank = option_map_or (λ policy. own_rank policy == rank) (policy_at s thread) false

-- one that has it waits for the thread, along recorded owners
abbrev pub lends : State → ℕ → ℕ → ℕ → Bool
lends s thread rank from = has_own s from rank && reaches thread_limit (next_owner s) from thread

-- the first such thread below one
unfoldable pub lender_below : State → ℕ → ℕ → ℕ → Option ℕ
lender_below s thread rank zero = None
lender_below s thread rank (suc from) = option_or (lender_below s thread rank from) (if lends s thread rank from then Some from else None)

abbrev pub lender : State → ℕ → ℕ → Option ℕ
lender s thread rank = lender_below s thread rank thread_limit

-- of a rank that isn't the thread's own
abbrev pub lender_of : State → ℕ → ℕ → Option ℕ
lender_of s thread rank = if has_own s thread rank then None else lender s thread rank

abbrev pub thread_stands : State → ℕ → Option Standing
thread_stands s thread =
    if is_attached s.sched thread
    then Some (record { lane = Thread thread; condition = condition s thread; number = Some (rank_of s thread); policy = policy_at s thread; lender = lender_of s thread (rank_of s thread) })
    else None

-- a thread got a mutex, and hasn't finished its wait yet
abbrev pub is_mutex : ℕ → Awaited → Bool
is_mutex mutex (awaited.Mutex id) = id.0 == mutex
is_mutex mutex _ = false

abbrev pub awaits : State → ℕ → ℕ → Bool
awaits s mutex thread = option_map_or (λ w. is_mutex mutex w.on) (wait_at s thread) false

abbrev pub is_handed : State → ℕ → ℕ → Bool
is_handed s mutex thread = has_ended s thread && (not (has_timed_out s thread) && awaits s mutex thread)

-- the first such thread below one
unfoldable pub handed_below : State → ℕ → ℕ → Option ℕ
handed_below s mutex zero = None
handed_below s mutex (suc thread) = option_or (handed_below s mutex thread) (if is_handed s mutex thread then Some thread else None)

abbrev pub handed_to : State → ℕ → Option ℕ
handed_to s mutex = handed_below s mutex thread_limit

abbrev pub handed_stands : State → ℕ → Option Standing
handed_stands s mutex = option_map (λ thread. standing (Mutex mutex) Handed (Some thread)) (handed_to s mutex)

-- its recorded owner, or else the thread that it has been handed on to
abbrev pub mutex_stands : State → ℕ → Option Standing
mutex_stands s mutex = option_or (option_map (λ owner. standing (Mutex mutex) Owned (Some owner)) (owner_at (record_at s mutex))) (handed_stands s mutex)

-- the timer runs
abbrev pub runs : State → ℕ → Option ℕ
runs s timer = option_map_or (λ t. date_of t.state) (timer_at s.clock timer) None

abbrev pub timer_stands : State → ℕ → Option Standing
timer_stands s timer = option_map (λ date. standing (Timer timer) Runs None) (runs s timer)

-- how many of the lines below one have an event that is pending on a stage
unfoldable pub pending_below : State → Stage → ℕ → ℕ
pending_below s stage zero = 0
pending_below s stage (suc line) = pending_below s stage line + (if is_pending s.lines stage line then 1 else 0)

abbrev pub pending_count : State → Stage → ℕ
pending_count s stage = pending_below s stage line_count

-- a count of 0 isn't shown
abbrev pub some_events : ℕ → Option ℕ
some_events count = if count == 0 then None else Some count

-- a stage that is stalled, or on which events are pending all the same, with how many these are
abbrev pub stage_stands : State → Stage → Option Standing
stage_stands s stage =
    if (side s.lines stage).stalled then Some (standing (OfStage stage) Stalled (some_events (pending_count s stage)))
    else option_map (λ count. standing (OfStage stage) Pending (Some count)) (some_events (pending_count s stage))

-- an interrupt line whose event is pending on a stage; line 0 is the clock's
abbrev pub event_stands : State → Lane → Stage → ℕ → Option Standing
event_stands s lane stage number = if is_pending s.lines stage number then Some (standing lane Pending None) else None

-- the state of a lane, where it shows something
abbrev pub stands : State → Lane → Option Standing
stands s (Thread thread) = thread_stands s thread
stands s (Mutex mutex) = mutex_stands s mutex
stands s (Timer timer) = timer_stands s timer
stands s (OfStage stage) = stage_stands s stage
stands s (Line stage number) = event_stands s (Line stage number) stage number
stands s Clock = event_stands s Clock Oob 0
stands s _ = None
