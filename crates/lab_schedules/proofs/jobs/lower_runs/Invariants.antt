use Rattle.std.proofs.Common.{◌≡◌, ◌++◌, drop, filter}
use Rattle.lab_schedules.specs.Jobs.{runs_lower}
use Rattle.lab_schedules.proofs.jobs.lower_runs.Given as goal

abbrev pub invariant-loop-stretch : goal.invariant-loop-stretch
invariant-loop-stretch l = l.lower.items ++ filter (runs_lower l.tasks l.rank) (drop l.stretch-index l.runs) ≡ filter (runs_lower l.tasks l.rank) l.runs
