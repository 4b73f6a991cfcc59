use Rattle.std.proofs.Common.{◌≡◌, drop}
use Rattle.lab_schedules.specs.Bounds.{blocking_in}
use Rattle.lab_schedules.proofs.bounds.blocking.Given as goal

abbrev pub invariant-loop-is : goal.invariant-loop-is
invariant-loop-is l = blocking_in l.kinds l.tasks l.rank l.sum (drop l.is-index l.tasks) ≡ blocking_in l.kinds l.tasks l.rank 0 l.tasks
