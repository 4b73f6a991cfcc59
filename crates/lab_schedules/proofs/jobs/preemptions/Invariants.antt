use Rattle.std.proofs.Common.{◌≡◌, None, drop}
use Rattle.lab_schedules.specs.Jobs.{preemptions}
use Rattle.lab_schedules.proofs.jobs.preemptions.Given as goal

abbrev pub invariant-loop-stretch : goal.invariant-loop-stretch
invariant-loop-stretch l = preemptions l.is l.events l.job l.last l.count (drop l.stretch-index l.runs) ≡ preemptions l.is l.events l.job None 0 l.runs
