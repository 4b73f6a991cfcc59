use Rattle.std.proofs.Common.{◌≡◌, ◌++◌, drop, filter}
use Rattle.lab_schedules.specs.Jobs.{of_task}
use Rattle.lab_schedules.proofs.jobs.events_of.Given as goal

abbrev pub invariant-loop-event : goal.invariant-loop-event
invariant-loop-event l = l.own.items ++ filter (of_task l.task) (drop l.event-index l.events) ≡ filter (of_task l.task) l.events
