-- The result of each job: by what happened in it, and by who computed when.
use Rattle.std.specs.Prelude.{ℕ, ◌+◌, ◌-◌, ◌^◌, ◌==◌, ◌&&◌, min, max, nat_le, nat_lt, Bool, true, false, not, List, [], ◌∷◌, ◌++◌, filter, Option, Some, None, option_and_then, option_map, slice_get, unwrap_or, if◌then◌else◌}
use Rattle.std.specs.Option.{option_map_or}
use Rattle.std.specs.List.{find, list_any}
use Rattle.evl_base.specs.declared.stage.Stage.{Stage}
use Rattle.evl_base.specs.declared.stage.Stage.TheVariants.{Inband, Oob}
use Rattle.evl_sched.specs.Policies.{base_rank}
use Rattle.lab_tasks.specs.declared.acts.Act.{Act}
use Rattle.lab_tasks.specs.declared.acts.Act.TheVariants as act
use Rattle.lab_tasks.specs.declared.sets.Task.{Task}
use Rattle.lab_tasks.specs.Sets.{in_range, release_of}
use Rattle.lab_schedules.specs.declared.jobs.Job.{Job}
use Rattle.lab_schedules.specs.declared.events.Event.{Event}
use Rattle.lab_schedules.specs.declared.events.Stretch.{Stretch}
use Rattle.lab_schedules.specs.declared.events.What.{What}
use Rattle.lab_schedules.specs.declared.events.What.TheVariants.{Starts, Begins, Finishes}

-- what belongs to one task: its events, its stretches, those of tasks of lower rank, and when the run ended
pub record PastOf : Type 0 where
  pub task : ℕ
  pub events : List Event
  pub runs : List Stretch
  pub lower : List Stretch
  pub end : ℕ

-- ---- what an event is

abbrev pub of_task : ℕ → Event → Bool
of_task task e = e.task == task

abbrev pub of_job : ℕ → Event → Bool
of_job job e = e.job == job

abbrev pub starts : What → Bool
starts Starts = true
starts _ = false

abbrev pub finishes : What → Bool
finishes Finishes = true
finishes _ = false

abbrev pub is_run : Option Act → Bool
is_run (Some (act.Run time)) = true
is_run _ = false

abbrev pub is_sleep : Option Act → Bool
is_sleep (Some (act.Sleep time)) = true
is_sleep (Some (act.Until time)) = true
is_sleep _ = false

abbrev pub computes : Task → ℕ → Bool
computes is number = is_run (slice_get is.does.items number)

abbrev pub rests : Task → ℕ → Bool
rests is number = is_sleep (slice_get is.does.items number)

-- the job gives the processor away: it is finished, or begins to wait
abbrev pub leaves : Task → What → Bool
leaves is Finishes = true
leaves is (Begins number) = not (computes is number)
leaves is _ = false

abbrev pub sleeps : Task → What → Bool
sleeps is (Begins number) = rests is number
sleeps is _ = false

abbrev pub is_start : Event → Bool
is_start e = starts e.what

abbrev pub is_finish : Event → Bool
is_finish e = finishes e.what

-- ---- dates of a job with these events

-- rule: A job starts and is finished at the dates of these events. It is late if it was finished after its deadline, or
--   wasn't by the end of the run, which is after that.
--   also: Jobs.{finish_of, deadline_of, is_late}
--   clauses: jobs_of
abbrev pub start_of : List Event → Option ℕ
start_of events = option_map (λ e. e.date) (find is_start events)

abbrev pub finish_of : List Event → Option ℕ
finish_of events = option_map (λ e. e.date) (find is_finish events)

abbrev pub released : Task → ℕ → ℕ
released is job = unwrap_or (release_of is job) 0

abbrev pub deadline_of : Task → ℕ → Option ℕ
deadline_of is release = option_and_then (λ by. in_range (release + by)) is.by

-- not by its deadline, in a run that ended so late
abbrev pub is_late : Option ℕ → Option ℕ → ℕ → Bool
is_late deadline finish end = option_map_or (λ date. nat_lt date (unwrap_or finish end)) deadline false

-- ---- preemptions

abbrev pub leaves_at : Task → List Event → ℕ → Bool
leaves_at is events date = list_any (λ e. e.date == date && leaves is e.what) events

-- rule: A job was preempted where a stretch of it begins later than the one before ended, at a date at which it neither
--   began to wait nor was finished.
--   also: Jobs.preemptions
--   clauses: jobs_of
-- a stretch begins later than the last one ended, where the job didn't give the processor away
abbrev pub is_gap : Task → List Event → Option ℕ → ℕ → Bool
is_gap is events last from = option_map_or (λ end. not (end == from) && not (leaves_at is events end)) last false

-- one more, up to the greatest number of 64 bits
abbrev pub more : ℕ → ℕ
more n = min (n + 1) (2 ^ 64 - 1)

-- how often that is so, with so many counted up to the end of the last stretch
abbrev pub preemptions : Task → List Event → ℕ → Option ℕ → ℕ → List Stretch → ℕ
preemptions is events job last count [] = count
preemptions is events job last count (s ∷ runs) =
    if s.job == job then preemptions is events job (Some s.to) (if is_gap is events last s.from then more count else count) runs
    else preemptions is events job last count runs

-- ---- held up by lower ranks

-- the rank that a task has by itself: out-of-band above in-band, and by its policy
abbrev pub rank_on : Stage → ℕ → ℕ
rank_on Inband rank = 0
rank_on Oob rank = 1 + rank

abbrev pub rank_of : Task → ℕ
rank_of is = rank_on is.stage (base_rank is.policy)

-- rule: A job is blocked while tasks of lower rank by themselves compute, between its release and its end, but for the
--   time that it sleeps.
--   also: Jobs.{share, blocked_in}
--   clauses: jobs_of
abbrev pub is_lower : List Task → ℕ → ℕ → Bool
is_lower tasks rank task = option_map_or (λ other. nat_lt (rank_of other) rank) (slice_get tasks task) false

abbrev pub runs_for : ℕ → Stretch → Bool
runs_for task s = s.task == task

abbrev pub runs_lower : List Task → ℕ → Stretch → Bool
runs_lower tasks rank s = is_lower tasks rank s.task

-- how much of a stretch lies between two dates
abbrev pub overlap : ℕ → ℕ → Stretch → ℕ
overlap from to s = min s.to to - max s.from from

-- the last of the events up to a date begins a sleep
abbrev pub is_asleep : Task → ℕ → Bool → List Event → Bool
is_asleep is date asleep [] = asleep
is_asleep is date asleep (e ∷ events) = is_asleep is date (if nat_le e.date date then sleeps is e.what else asleep) events

abbrev pub share : Task → List Event → ℕ → ℕ → Stretch → ℕ
share is events from to s = if is_asleep is s.from false events then 0 else overlap from to s

-- how long stretches of lower ranks hold a job up between two dates, with so much before, up to the greatest number
abbrev pub blocked_in : Task → List Event → ℕ → ℕ → ℕ → List Stretch → ℕ
blocked_in is events from to sum [] = sum
blocked_in is events from to sum (s ∷ lower) =
    blocked_in is events from to (min (sum + share is events from to s) (2 ^ 64 - 1)) lower

-- ---- jobs

abbrev pub job_with : Task → PastOf → ℕ → List Event → Job
job_with is past job events = record {
  task = past.task;
  job = job;
  release = released is job;
  start = start_of events;
  finish = finish_of events;
  deadline = deadline_of is (released is job);
  late = is_late (deadline_of is (released is job)) (finish_of events) past.end;
  preempted = preemptions is events job None 0 past.runs;
  blocked = blocked_in is events (released is job) (unwrap_or (finish_of events) past.end) 0 past.lower;
}

abbrev pub job_of : Task → PastOf → ℕ → Job
job_of is past job = job_with is past job (filter (of_job job) past.events)

-- the next job was released before the end
abbrev pub is_next_there : Task → PastOf → ℕ → Bool
is_next_there is past job = option_map_or (λ date. nat_lt date past.end) (release_of is job) false

-- those that start by these events, and the next one, where it was released before the end
abbrev pub jobs_in : Task → PastOf → ℕ → List Event → List Job
jobs_in is past next [] = if is_next_there is past next then job_of is past next ∷ [] else []
jobs_in is past next (e ∷ events) =
    if starts e.what then job_of is past e.job ∷ jobs_in is past (more e.job) events else jobs_in is past next events

abbrev pub rank_at : List Task → ℕ → ℕ
rank_at tasks task = option_map_or rank_of (slice_get tasks task) 0

abbrev pub past_of : List Task → ℕ → List Event → List Stretch → ℕ → PastOf
past_of tasks task events runs end = record {
  task = task;
  events = filter (of_task task) events;
  runs = filter (runs_for task) runs;
  lower = filter (runs_lower tasks (rank_at tasks task)) runs;
  end = end;
}

abbrev pub jobs_of_task : Task → PastOf → List Job
jobs_of_task is past = jobs_in is past 0 past.events

-- rule: The jobs that have started are listed, and each task's next one that was released before the end: by tasks, and
--   by their numbers.
--   clauses: jobs_of; Schedule::jobs
-- the jobs of the tasks from this one on, counted from 0
abbrev pub jobs_of : List Task → List Event → List Stretch → ℕ → ℕ → List Task → List Job
jobs_of all events runs end task [] = []
jobs_of all events runs end task (is ∷ tasks) = jobs_of_task is (past_of all task events runs end) ++ jobs_of all events runs end (task + 1) tasks
