use Rattle.std.proofs.Common.{◌≡◌, ◌++◌, drop, filter}
use Rattle.lab_schedules.specs.Jobs.{of_job}
use Rattle.lab_schedules.proofs.jobs.events_of_job.Given as goal

abbrev pub invariant-loop-event : goal.invariant-loop-event
invariant-loop-event l = l.own.items ++ filter (of_job l.job) (drop l.event-index l.events) ≡ filter (of_job l.job) l.events
