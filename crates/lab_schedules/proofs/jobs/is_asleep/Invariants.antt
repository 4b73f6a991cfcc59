use Rattle.std.proofs.Common.{◌≡◌, drop, false}
use Rattle.lab_schedules.specs.Jobs.{is_asleep}
use Rattle.lab_schedules.proofs.jobs.is_asleep.Given as goal

abbrev pub invariant-loop-event : goal.invariant-loop-event
invariant-loop-event l = is_asleep l.is l.date l.asleep (drop l.event-index l.events) ≡ is_asleep l.is l.date false l.events
