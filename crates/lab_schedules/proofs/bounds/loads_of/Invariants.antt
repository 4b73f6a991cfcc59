use Rattle.std.proofs.Common.{◌≡◌, ◌++◌, drop}
use Rattle.lab_schedules.specs.Bounds.{loads_in}
use Rattle.lab_schedules.proofs.bounds.loads_of.Given as goal

abbrev pub invariant-loop-at : goal.invariant-loop-at
invariant-loop-at l = l.loads.items ++ loads_in l.place l.rank l.at (drop l.at l.tasks) ≡ loads_in l.place l.rank 0 l.tasks
