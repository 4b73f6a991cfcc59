use Rattle.std.proofs.Common.{◌≡◌, ◌++◌, drop}
use Rattle.lab_schedules.specs.Jobs.{jobs_of}
use Rattle.lab_schedules.proofs.jobs.jobs_of.Given as goal

abbrev pub invariant-loop-task : goal.invariant-loop-task
invariant-loop-task l = l.jobs.items ++ jobs_of l.tasks l.events l.runs l.end l.task (drop l.task l.tasks) ≡ jobs_of l.tasks l.events l.runs l.end 0 l.tasks
