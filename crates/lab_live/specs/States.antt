-- The words of a driven machine about its state.
use Rattle.std.specs.Prelude.{ℕ, zero, suc, ◌==◌, Bool, true, false, ◌&&◌, List, [], ◌∷◌, ◌++◌, length, reverse, filter, find, flat_map, codes, decimal, if◌then◌else◌, Option, Some, None, Result, Ok}
use Rattle.std.specs.List.{join_by}
use Rattle.std.specs.Option.{option_map_or}
use Rattle.evl_base.specs.Call.{call_text}
use Rattle.evl_base.specs.Stage.{stage_text}
use Rattle.evl_base.specs.declared.entry.Entry.{Entry}
use Rattle.evl_base.specs.declared.refusal.Refusal.{Refusal}
use Rattle.evl_base.specs.declared.reply.Reply.{Reply}
use Rattle.evl_base.specs.declared.reply.Reply.TheVariants.{Begun}
use Rattle.evl_base.specs.declared.stage.Stage.{Stage}
use Rattle.evl_base.specs.declared.stage.Stage.TheVariants.{Inband, Oob}
use Rattle.evl_pipeline.specs.Limits.{line_count}
use Rattle.evl_pipeline.specs.Lines.{is_pending, side}
use Rattle.evl_clock.specs.Clocks.{timer_at}
use Rattle.evl_clock.specs.Limits.{timer_count}
use Rattle.evl_clock.specs.declared.timer_state.TimerState.{TimerState}
use Rattle.evl_clock.specs.declared.timer_state.TimerState.TheVariants.{Idle, Running, Ended}
use Rattle.evl_sched.specs.Threads.{stage_of}
use Rattle.evl_mutex.specs.Owners.{owner_at}
use Rattle.evl_kernel.specs.histories.Histories.{History}
use Rattle.evl_kernel.specs.calls.MutexEffects.{record_at}
use Rattle.evl_kernel.specs.state.States.{State}
use Rattle.evl_kernel.specs.waiting.Waits.{has_ended, has_timed_out, is_waiting}
use Rattle.evl_scenario.specs.Lines.{line_feed}
use Rattle.lab_live.specs.Sessions.{Driven}

-- the numbers below n, in order
unfoldable pub numbers_below : ℕ → List ℕ
numbers_below zero = []
numbers_below (suc n) = numbers_below n ++ n ∷ []

-- ---- a thread

abbrev pub is_begun : Result Reply Refusal → Bool
is_begun (Ok Begun) = true
is_begun _ = false

-- by this entry the thread began to wait
abbrev pub begins_wait : ℕ → Entry → Bool
begins_wait thread entry = (entry.caller.0 == thread) && is_begun entry.reply

-- the last of these entries by which it did
abbrev pub last_begun : ℕ → List Entry → Option Entry
last_begun thread entries = find (begins_wait thread) (reverse entries)

abbrev pub begun_text : Option Entry → List ℕ
begun_text None = []
begun_text (Some entry) = codes ": " ++ call_text entry.call

-- how an unfinished wait is: its deadline ended it, or it was served, or it goes on
abbrev pub standing_text : State → ℕ → List ℕ
standing_text s thread =
    if has_timed_out s thread then codes ", timed out"
    else if has_ended s thread then codes ", served"
    else codes ", waits"

-- a thread's unfinished wait, if it has one, and the call with which it last began to wait
abbrev pub wait_text : History → ℕ → List ℕ
wait_text h thread = if is_waiting h.state thread then standing_text h.state thread ++ begun_text (last_begun thread h.entries) else []

abbrev pub thread_line : History → ℕ → List ℕ
thread_line h thread =
    codes "T" ++ (decimal thread ++ (codes " " ++ (stage_text (stage_of h.state.sched thread) ++ (wait_text h thread ++ line_feed))))

-- ---- a mutex

abbrev pub owner_text : ℕ → Option ℕ → ℕ → List ℕ
owner_text mutex None waiters = []
owner_text mutex (Some owner) waiters =
    codes "mutex " ++ (decimal mutex ++ (codes " owner T" ++ (decimal owner ++ (codes ", " ++ (decimal waiters ++ codes " waiting\n")))))

-- how many threads wait for a mutex
abbrev pub waiter_count : State → ℕ → ℕ
waiter_count s mutex = option_map_or (λ m. length m.waiters) (record_at s mutex) 0

-- a mutex that has an owner; of others nothing is reported
abbrev pub mutex_line : State → ℕ → List ℕ
mutex_line s mutex = owner_text mutex (owner_at (record_at s mutex)) (waiter_count s mutex)

-- ---- a stage

-- the lines that are pending on a stage, in rising order
abbrev pub pending_on : State → Stage → List ℕ
pending_on s stage = filter (is_pending s.lines stage) (numbers_below line_count)

-- lines by their numbers, with a space between, or that there are none
abbrev pub pending_text : List ℕ → List ℕ
pending_text [] = codes ", nothing pending\n"
pending_text (first ∷ others) = codes ", pending " ++ (join_by decimal (codes " ") (first ∷ others) ++ line_feed)

abbrev pub stalled_text : State → Stage → List ℕ
stalled_text s stage = if (side s.lines stage).stalled then codes " stalled" else []

abbrev pub stage_line : State → Stage → List ℕ
stage_line s stage = stage_text stage ++ (stalled_text s stage ++ pending_text (pending_on s stage))

-- ---- a timer

abbrev pub timer_text : ℕ → TimerState → List ℕ
timer_text timer (Running date interval) =
    codes "timer " ++ (decimal timer ++ (codes " next " ++ (decimal date ++ (codes " interval " ++ (decimal interval ++ line_feed)))))
timer_text timer Idle = codes "timer " ++ (decimal timer ++ codes " idle\n")
timer_text timer Ended = codes "timer " ++ (decimal timer ++ codes " ended\n")

-- a timer that there is; of others nothing is reported
abbrev pub timer_line : State → ℕ → List ℕ
timer_line s timer = option_map_or (λ t. timer_text timer t.state) (timer_at s.clock timer) []

-- ---- the machine

-- a line for each mutex that has an owner, for each stage, and for each timer that there is
unfoldable pub rest_text : Driven → List ℕ
rest_text driven =
    flat_map (mutex_line driven.history.state) (numbers_below (length driven.board.mutexes.items))
    ++ (stage_line driven.history.state Oob
    ++ (stage_line driven.history.state Inband
    ++ flat_map (timer_line driven.history.state) (numbers_below timer_count)))

-- a line for each thread, and those
unfoldable pub state_text : Driven → List ℕ
state_text driven = flat_map (thread_line driven.history) (numbers_below driven.board.threads) ++ rest_text driven

-- ---- for private clauses

-- what was written of lines that are pending so far, before the others and the end
abbrev pub pending_so_far : List ℕ → List ℕ
pending_so_far [] = []
pending_so_far (first ∷ others) = codes ", pending " ++ join_by decimal (codes " ") (first ∷ others)

abbrev pub is_none : List ℕ → Bool
is_none [] = true
is_none (first ∷ others) = false

-- a line after so many others
abbrev pub pending_next : Bool → ℕ → List ℕ
pending_next is_first line = (if is_first then codes ", pending " else codes " ") ++ decimal line

-- what ends them
abbrev pub pending_end : Bool → List ℕ
pending_end none = if none then codes ", nothing pending\n" else line_feed
