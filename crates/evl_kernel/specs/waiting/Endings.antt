-- The end of a wait: by its caller, and by its deadline.
use Rattle.std.specs.Prelude.{ℕ, Bool, true, false, List, [], not, ◌&&◌, Option, Some, None, Result, Ok, Err, if◌then◌else◌}
use Rattle.std.specs.Option.{option_map_or}
use Rattle.evl_base.specs.declared.refusal.Refusal.{Refusal}
use Rattle.evl_base.specs.declared.refusal.Refusal.TheVariants.{Invalid, Again}
use Rattle.evl_base.specs.declared.reply.Reply.{Reply}
use Rattle.evl_base.specs.declared.reply.Reply.TheVariants.{Done, TimedOut}
use Rattle.evl_base.specs.declared.stage.Stage.TheVariants.{Inband}
use Rattle.evl_sched.specs.Policies.{is_weak}
use Rattle.evl_sched.specs.Threads.{seat_at, stage_set}
use Rattle.evl_kernel.specs.declared.waits.Awaited.{Awaited}
use Rattle.evl_kernel.specs.declared.waits.Awaited.TheVariants.{Sem, Flags, Writing, Reading, Mutex}
use Rattle.evl_kernel.specs.declared.waits.Wait.{Wait}
use Rattle.evl_kernel.specs.state.States.{State, Elements, with_sched}
use Rattle.evl_kernel.specs.calls.Effects.{Effect, if_done, leaving}
use Rattle.evl_kernel.specs.calls.Semaphores as semaphore
use Rattle.evl_kernel.specs.calls.FlagGroups as group
use Rattle.evl_kernel.specs.calls.CrossBuffers as through
use Rattle.evl_kernel.specs.calls.Mutexes as mutex
use Rattle.evl_kernel.specs.calls.Elements.{ElementStep, on_sem, on_flags, on_xbuf, on_mutex, element, wakes, Told, touched, untouched}
use Rattle.evl_kernel.specs.waiting.Waits.{wait_at, with_wait, woken}

abbrev pub is_of_mutex : Awaited → Bool
is_of_mutex (Mutex id) = true
is_of_mutex on = false

-- a wait for a mutex that ended by getting it
abbrev pub got_mutex : Awaited → Reply → Bool
got_mutex (Mutex id) Done = true
got_mutex on outcome = false

abbrev pub has_got_mutex : Option Wait → Bool
has_got_mutex wait = option_map_or (λ w. option_map_or (got_mutex w.on) w.outcome false) wait false

-- rule: A weak thread goes in-band at its `Finish`, unless it keeps its stage or got a mutex.
--   also: Endings.{inband_if, got_mutex}
--   rows: weak_goes_inband; weak_keeps_its_stage; weak_thread_goes_inband; weak_thread_with_a_mutex; ceilings
-- a weak thread goes in-band, where it isn't yet, unless it keeps its stage or got a mutex
abbrev pub goes_inband : State → ℕ → Bool → Bool
goes_inband s thread keep = option_map_or (λ seat. is_weak seat.policy) (seat_at s.sched thread) false && not keep && not (has_got_mutex (wait_at s thread))

abbrev pub inband_if : Bool → State → ℕ → State
inband_if goes s thread = if goes then with_sched s (stage_set s.sched thread Inband) else s

-- rule: `Finish` is `Invalid` without a wait, `Again` while it goes on, else what ended the wait, once.
--   also: Endings.finish
--   rows: waits_1; late_finish
-- refusals: Finish
-- what ended a wait: refused where there is none, and while it goes on
abbrev pub outcome_of : Option Wait → Result Reply Refusal
outcome_of None = Err Invalid
outcome_of (Some w) = option_map_or (λ outcome. Ok outcome) w.outcome (Err Again)

-- answers what ended the wait, which is finished then
abbrev pub finish : State → ℕ → Bool → Effect
finish s thread keep = leaving (inband_if (goes_inband s thread keep) (with_wait s thread None) thread) (outcome_of (wait_at s thread))

-- the step of the element with which a waiter leaves it
abbrev pub drop_step : ℕ → Awaited → ElementStep
drop_step thread (Sem id) = on_sem id.0 (semaphore.drop thread)
drop_step thread (Flags id) = on_flags id.0 (group.drop thread)
drop_step thread (Writing id way) = on_xbuf id.0 (through.drop thread way)
drop_step thread (Reading id way) = on_xbuf id.0 (through.drop thread way)
drop_step thread (Mutex id) = on_mutex id.0 (mutex.drop thread)

-- the thread leaves the queue of this wait
abbrev pub leaving_queue : State → ℕ → Option Wait → Told
leaving_queue s thread wait = option_map_or (λ w. touched s None (drop_step thread w.on)) wait (untouched (Err Invalid))

-- rule: A due deadline ends the wait as timed out: the thread leaves the queue, and the play is reported.
--   also: Settling.deadline_left
--   rows: deadline_before_timer; put_at_the_deadline; deadline_against_put; flag_wait_times_out; a_deadline_falls_due
-- rule: A waiter that leaves at its deadline becomes ready before those that it lets go.
--   also: Waits.woken
--   rows: timed_out_writer_is_ready_first
-- A deadline ends its thread's wait as timed out, and the thread leaves the queue in which it waited.
abbrev pub expiring : State → ℕ → Told
expiring s thread = leaving_queue (woken s thread TimedOut) thread (wait_at s thread)

-- the elements once the thread has left the queue of this wait, and whose waits that ends
abbrev pub left_by : Elements → ℕ → Option Wait → Elements
left_by e thread wait = option_map_or (λ w. if_done e (element e (drop_step thread w.on))) wait e

abbrev pub served_by_leaving : Elements → ℕ → Option Wait → List (ℕ × Reply)
served_by_leaving e thread wait = option_map_or (λ w. wakes e (drop_step thread w.on)) wait []
