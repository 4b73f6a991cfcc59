-- Waits of threads: how they begin, and what ends them.
use Rattle.std.specs.Prelude.{ℕ, nat_le, Bool, true, false, List, [], ◌∷◌, Option, Some, None, is_some, option_map, slice_index_or, slice_set}
use Rattle.std.specs.Option.{option_map_or}
use Rattle.evl_base.specs.declared.reply.Reply.{Reply}
use Rattle.evl_base.specs.declared.reply.Reply.TheVariants.{TimedOut}
use Rattle.evl_clock.specs.Clocks.{with_deadline}
use Rattle.evl_sched.specs.Threads.{readied, unready}
use Rattle.evl_kernel.specs.declared.waits.Awaited.{Awaited}
use Rattle.evl_kernel.specs.declared.waits.Wait.{Wait}
use Rattle.evl_kernel.specs.state.States.{State, with_clock, with_sched, with_waits}
use Rattle.evl_kernel.specs.calls.TimerCalls.{posted_if}

abbrev pub wait_of : List (Option Wait) → ℕ → Option Wait
wait_of waits thread = slice_index_or waits thread None

abbrev pub wait_at : State → ℕ → Option Wait
wait_at s thread = wait_of s.waits thread

-- rule: A thread waits from its `Begin..` to its `Finish`; the wait is finished once it has ended, timed out if its
--   deadline ended it.
--   also: Waits.{has_ended, has_timed_out}
--   clauses: Kernel::{waits, finished, timed_out}
--   rows: readers_tell_of_waits
-- the thread has an unfinished wait, which goes on or has ended
abbrev pub is_waiting : State → ℕ → Bool
is_waiting s thread = is_some (wait_at s thread)

-- its unfinished wait has ended
abbrev pub has_ended : State → ℕ → Bool
has_ended s thread = option_map_or (λ w. is_some w.outcome) (wait_at s thread) false

abbrev pub is_timeout : Reply → Bool
is_timeout TimedOut = true
is_timeout _ = false

-- by its deadline
abbrev pub has_timed_out : State → ℕ → Bool
has_timed_out s thread = option_map_or (λ w. option_map_or is_timeout w.outcome false) (wait_at s thread) false

abbrev pub with_wait : State → ℕ → Option Wait → State
with_wait s thread wait = with_waits s (slice_set s.waits thread wait)

-- a wait for this that goes on, and one that ended so
abbrev pub going_on : Awaited → Wait
going_on on = record { on = on; outcome = None }

abbrev pub ended_by : Reply → Wait → Wait
ended_by outcome w = record { on = w.on; outcome = Some outcome }

-- The thread is blocked, until the deadline where there is one.
abbrev pub suspended : State → ℕ → Awaited → Option ℕ → State
suspended s thread on until =
    with_sched (with_clock (with_wait s thread (Some (going_on on))) (with_deadline s.clock thread until)) (unready s.sched thread)

-- rule: A deadline that is not after now posts line 0 at once.
--   also: Waits.blocked_on
--   rows: waits_2
-- there is a deadline, and it isn't after now
abbrev pub is_past : ℕ → Option ℕ → Bool
is_past now until = option_map_or (λ date. nat_le date now) until false

-- a deadline that isn't after now posts line 0 at once
abbrev pub blocked_on : State → ℕ → Awaited → Option ℕ → State
blocked_on s thread on until = posted_if (is_past s.clock.now until) (suspended s thread on until)

-- rule: A wait that the element allows is served at once, without a deadline; else its thread is blocked and has the
--   call's deadline.
--   also: Waits.suspended; Beginnings.beginning
--   clauses: Kernel::apply
--   rows: served_at_once; waits_1
-- rule: A thread served at once keeps its place in the ready list and is busy until its `Finish`.
--   also: Waits.is_waiting
--   rows: served_at_once; weak_goes_inband
-- The beginning of a wait: where it is served at once the thread isn't blocked, and it has no deadline.
abbrev pub wait_begun : State → ℕ → Awaited → Option ℕ → Option Reply → State
wait_begun s thread on until None = blocked_on s thread on until
wait_begun s thread on until (Some outcome) = with_wait s thread (Some (ended_by outcome (going_on on)))

-- rule: A thread served, by a call or a callback, joins the end of the ready list and loses its deadline.
--   also: Waits.all_woken; Elements.wakes
--   rows: waits_1; sixty_three_waiters; served_by_a_callback; handler_wakes_a_thread; a_blocked_thread_comes_back
-- A wait that went on has ended: its deadline is gone, and its thread goes to the end of the ready list, where it is
-- out-of-band.
abbrev pub woken : State → ℕ → Reply → State
woken s thread outcome =
    with_sched (with_clock (with_wait s thread (option_map (ended_by outcome) (wait_at s thread))) (with_deadline s.clock thread None)) (readied s.sched thread)

-- the waits of several end, in this order
abbrev pub all_woken : State → List (ℕ × Reply) → State
all_woken s [] = s
all_woken s ((thread, outcome) ∷ others) = all_woken (woken s thread outcome) others
