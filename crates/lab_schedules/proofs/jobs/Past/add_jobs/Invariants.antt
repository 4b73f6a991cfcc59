use Rattle.std.proofs.Common.{◌≡◌, ◌++◌, drop}
use Rattle.lab_schedules.specs.Jobs.{jobs_in}
use Rattle.lab_schedules.proofs.jobs.Past.add_jobs.Given as goal

abbrev pub invariant-loop-event : goal.invariant-loop-event
invariant-loop-event l = l.jobs.items ++ jobs_in l.is l.self l.next (drop l.event-index l.events) ≡ l.fn.jobs.items ++ jobs_in l.is l.self 0 l.events
