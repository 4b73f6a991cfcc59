use Rattle.std.proofs.Common.{◌≡◌, drop}
use Rattle.lab_schedules.specs.Jobs.{blocked_in}
use Rattle.lab_schedules.proofs.jobs.blocked_in.Given as goal

abbrev pub invariant-loop-stretch : goal.invariant-loop-stretch
invariant-loop-stretch l = blocked_in l.is l.events l.from l.to l.sum (drop l.stretch-index l.lower) ≡ blocked_in l.is l.events l.from l.to 0 l.lower
