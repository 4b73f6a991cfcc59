-- How a run of a task set ends, as a status.
use Rattle.std.specs.Prelude.{ℕ, ◌≡◌, ◌⊎◌, ◌==◌, ◌&&◌, Bool, not, List, [], if◌then◌else◌}
use Rattle.std.specs.List.{list_all}
use Rattle.evl_kernel.specs.state.States.{Handler}
use Rattle.lab_tasks.specs.declared.sets.TaskSet.{TaskSet}
use Rattle.lab_schedules.specs.Asks.{holds}
use Rattle.lab_schedules.specs.Jobs.{jobs_of}
use Rattle.lab_schedules.specs.declared.jobs.Job.{Job}
use Rattle.lab_schedules.specs.Openings.{IsSchedule}
use Rattle.lab_schedules.specs.declared.schedules.Schedule.{Schedule}
use Rattle.lab_schedules.specs.declared.schedules.End.{End}
use Rattle.lab_schedules.specs.declared.schedules.End.TheVariants.{Until, Quiet, Full, Long, Setup, Attach}

-- it went to its end, was cut off, or something before it was refused
abbrev pub status_of : End → ℕ
status_of Until = 0
status_of Quiet = 0
status_of Full = 5
status_of Long = 5
status_of (Setup number) = 2
status_of (Attach number) = 2

-- what came of each job
abbrev pub jobs_in : Schedule → List Job
jobs_in s = jobs_of s.rules.tasks.items s.events.items s.runs.items s.date 0 s.rules.tasks.items

-- these are the jobs, or nothing is asked of them
abbrev pub AreEnough : Schedule → List Job → Type 0
AreEnough s jobs = (s.rules.asks.items ≡ []) ⊎ (jobs ≡ jobs_in s)

-- something asked isn't so of a run that went to its end
abbrev pub fails : Schedule → Bool
fails s = status_of s.end == 0 && not (list_all (holds (jobs_in s) s.date) s.rules.asks.items)

abbrev pub status_in : Schedule → ℕ
status_in s = if fails s then 1 else status_of s.end

-- rule: A run's status is 0 where its schedule went to its end, 1 where it did and something asked isn't so, 5 where it
--   was cut off, 2 where its setup or a task was refused; `lab` prints and says what the part answers, and ends with
--   its status.
--   also: Runs.status_in
--   clauses: run_set; emit
-- a task set is run over these callbacks: the status is that of its schedule
abbrev pub RunEnds : TaskSet → List Handler → ℕ → Type 0
RunEnds set bank status = (schedule : Schedule) × IsSchedule set bank schedule × (status ≡ status_in schedule)
