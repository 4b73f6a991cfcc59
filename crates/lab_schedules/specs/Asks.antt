-- The questions about a run, and whether they are so of its jobs.
use Rattle.std.specs.Prelude.{ℕ, ◌-◌, ◌==◌, ◌&&◌, nat_lt, Bool, not, List, unwrap_or, if◌then◌else◌}
use Rattle.std.specs.List.{find}
use Rattle.std.specs.Option.{is_none}
use Rattle.lab_tasks.specs.declared.asks.Ask.{Ask}
use Rattle.lab_tasks.specs.declared.asks.Ask.TheVariants.{MeetsDeadlines, Response, Blocked}
use Rattle.lab_schedules.specs.declared.jobs.Job.{Job}

-- from its release to its end, or to the end of the run
abbrev pub lasts : Job → ℕ → ℕ
lasts job end = unwrap_or job.finish end - job.release

-- rule: An ask is kept if no job is against it: a late one where deadlines are to be met, one of the task that
--   takes longer, or is held up for longer, from its release to its end, or to the end of the run. If a deadline is to
--   be missed, some job is late.
--   also: Asks.holds
--   clauses: first_against; holds; all_hold
-- a job of a run that ended at a date is late, takes longer, or is held up for longer
abbrev pub is_against : Ask → ℕ → Job → Bool
is_against (MeetsDeadlines wanted) end job = job.late
is_against (Response task most) end job = job.task == task && nat_lt most (lasts job end)
is_against (Blocked task most) end job = job.task == task && nat_lt most job.blocked

abbrev pub is_met : List Job → ℕ → Ask → Bool
is_met jobs end ask = is_none (find (is_against ask end) jobs)

-- where it is asked that some job is late, one has to be
abbrev pub holds : List Job → ℕ → Ask → Bool
holds jobs end (MeetsDeadlines wanted) = if wanted then is_met jobs end (MeetsDeadlines wanted) else not (is_met jobs end (MeetsDeadlines wanted))
holds jobs end ask = is_met jobs end ask
