-- The acts of a task that has the processor, where they take no time.
use Rattle.std.specs.Prelude.{ℕ, ◌+◌, ◌-◌, ◌^◌, ◌==◌, min, nat_le, nat_lt, Bool, true, false, Option, Some, None, option_map, slice_get, if◌then◌else◌}
use Rattle.std.specs.Option.{option_map_or}
use Rattle.evl_base.specs.declared.call.Call.{Call}
use Rattle.evl_base.specs.declared.call.Call.TheVariants.{BeginGet, BeginRead, Finish, SetStage}
use Rattle.evl_base.specs.declared.way.Way.TheVariants.{In}
use Rattle.evl_base.specs.declared.stage.Stage.TheVariants.{Inband}
use Rattle.evl_kernel.specs.waiting.Waits.{is_waiting}
use Rattle.lab_tasks.specs.declared.acts.Act.{Act}
use Rattle.lab_tasks.specs.declared.acts.Act.TheVariants as act
use Rattle.lab_tasks.specs.declared.sets.Task.{Task}
use Rattle.lab_tasks.specs.Sets.{release_of}
use Rattle.lab_schedules.specs.declared.locking.Tried.{Tried}
use Rattle.lab_schedules.specs.declared.locking.Tried.TheVariants as tried
use Rattle.lab_schedules.specs.declared.places.Phase.{Phase}
use Rattle.lab_schedules.specs.declared.places.Phase.TheVariants.{Between, Due, At, Runs, Sleeps, Waits, Over}
use Rattle.lab_schedules.specs.declared.places.Place.{Place}
use Rattle.lab_schedules.specs.declared.events.What.TheVariants as what
use Rattle.lab_schedules.specs.Locks.{Attempt, attempt, lock, unlock}
use Rattle.lab_schedules.specs.Places.{at, at_first, behind_job, further}
use Rattle.lab_schedules.specs.Plays.{Played, called, is_oob_thread, now, state, thread_of, told, with_place}

-- its act is done, and the next one comes
abbrev pub did : Played → ℕ → Place → Played
did p task place = with_place (told p task (what.Does place.act)) task (further place)

abbrev pub finish_job : Played → ℕ → Place → Played
finish_job p task place = with_place (told p task what.Finishes) task (behind_job place)

-- its computation is done, and its job is finished, where nothing but its end follows
unfoldable pub end_run : Played → ℕ → Place → ℕ → Played
end_run p task place acts =
    if (further place).act == acts then finish_job (did p task place) task (further place) else did p task place

-- by a wait for a byte of the cross-buffer into which nobody writes, where its stage may wait
unfoldable pub rest_until : Played → ℕ → ℕ → Played
rest_until p task date =
    if is_oob_thread p (thread_of task) then called p (thread_of task) (BeginRead p.idle In 1 (Some date)) else p

unfoldable pub end_wait : Played → ℕ → Played
end_wait p task =
    if is_waiting (state p) (thread_of task).0 then called p (thread_of task) (Finish true) else p

-- it has no more jobs: it goes in-band, where nothing more is asked of it
unfoldable pub leave : Played → ℕ → Place → Played
leave p task place =
    with_place (if is_oob_thread p (thread_of task) then called p (thread_of task) (SetStage Inband) else p) task (at place Over)

-- its next job is released at this date
unfoldable pub await_date : Played → ℕ → Place → ℕ → Played
await_date p task place date =
    with_place (if nat_lt (now p) date then rest_until p task date else p) task (at place (Due date))

abbrev pub awaited : Played → ℕ → Place → Option ℕ → Played
awaited p task place None = leave p task place
awaited p task place (Some date) = await_date p task place date

abbrev pub await_job : Played → ℕ → Place → Task → Played
await_job p task place is = awaited p task place (release_of is place.job)

unfoldable pub start : Played → ℕ → Place → Played
start p task place = with_place (told (end_wait p task) task what.Starts) task (at_first place)

unfoldable pub wake : Played → ℕ → Place → Played
wake p task place = did (end_wait p task) task place

-- ---- acts

abbrev pub tried_to : Tried → Played → ℕ → Place → Played
tried_to tried.Done p task place = did p task place
tried_to tried.Waits p task place = with_place (told p task (what.Begins place.act)) task (at place Waits)
tried_to tried.TimedOut p task place = with_place (told p task (what.TimedOut place.act)) task (further place)
tried_to (tried.Refused why) p task place = with_place (told p task (what.Refused place.act why)) task (further place)

abbrev pub after_attempt : Attempt → ℕ → Place → Played
after_attempt a task place = tried_to a.0 a.1 task place

-- what it waited for in a call is over: the call is done, or refused
unfoldable pub end_call : Played → ℕ → Place → Played
end_call p task place =
    if is_waiting (state p) (thread_of task).0 then after_attempt (attempt p (thread_of task) (Finish true)) task place else did p task place

unfoldable pub run : Played → ℕ → Place → ℕ → Played
run p task place time =
    if time == 0 then did p task place
    else with_place (told p task (what.Begins place.act)) task (at place (Runs time))

-- until a date, if that is later than now
unfoldable pub sleep : Played → ℕ → Place → ℕ → Played
sleep p task place date =
    if nat_le date (now p) then did p task place
    else with_place (rest_until (told p task (what.Begins place.act)) task date) task (at place (Sleeps date))

-- dates end where 64 bits do
abbrev pub date_after : ℕ → ℕ → ℕ
date_after date time = min (date + time) (2 ^ 64 - 1)

-- the deadline of a wait for so long from now on
abbrev pub get_until : Played → Option ℕ → Option ℕ
get_until p within = option_map (λ time. date_after (now p) time) within

abbrev pub do_act : Played → ℕ → Place → Task → Act → Played
do_act p task place is (act.Run time) = run p task place time
do_act p task place is (act.Sleep time) = sleep p task place (date_after (now p) time)
do_act p task place is (act.Until time) = sleep p task place (date_after (option_map_or (λ date. date) (release_of is place.job) 0) time)
do_act p task place is (act.Lock mutex) = after_attempt (lock p (thread_of task) mutex) task place
do_act p task place is (act.Unlock mutex) = after_attempt (unlock p (thread_of task) mutex) task place
do_act p task place is (act.Get sem within) = after_attempt (attempt p (thread_of task) (BeginGet sem (get_until p within))) task place
do_act p task place is (act.Call call) = after_attempt (attempt p (thread_of task) call) task place

abbrev pub next_act : Played → ℕ → Place → Task → Option Act → Played
next_act p task place is None = finish_job p task place
next_act p task place is (Some one) = do_act p task place is one

-- rule: A job is finished at the end of its last computation, if nothing but its end follows, else with its last act. A
--   sleep until now or before takes no time; a job whose release has come begins at once.
--   clauses: Play::act
abbrev pub act_in : Played → ℕ → Place → Task → Phase → Played
act_in p task place is Between = await_job p task place is
act_in p task place is (Due date) = start p task place
act_in p task place is At = next_act p task place is (slice_get is.does.items place.act)
act_in p task place is (Sleeps date) = wake p task place
act_in p task place is Waits = end_call p task place
act_in p task place is (Runs rest) = p
act_in p task place is Over = p

-- a task that has the processor goes on
abbrev pub act_at : Played → ℕ → Place → Task → Played
act_at p task place is = act_in p task place is place.phase
