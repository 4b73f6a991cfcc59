use Rattle.std.proofs.Common.{◌≡◌, ◌++◌, drop, filter}
use Rattle.lab_schedules.specs.Jobs.{runs_for}
use Rattle.lab_schedules.proofs.jobs.runs_of.Given as goal

abbrev pub invariant-loop-stretch : goal.invariant-loop-stretch
invariant-loop-stretch l = l.own.items ++ filter (runs_for l.task) (drop l.stretch-index l.runs) ≡ filter (runs_for l.task) l.runs
