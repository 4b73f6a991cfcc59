use Rattle.std.proofs.Common.{◌≡◌, drop}
use Rattle.lab_schedules.specs.Covers.{misfit_in}
use Rattle.lab_schedules.proofs.covers.misfit_in.Given as goal

abbrev pub invariant-loop-place : goal.invariant-loop-place
invariant-loop-place l = misfit_in l.kinds l.tasks l.place (drop l.place l.tasks) ≡ misfit_in l.kinds l.tasks 0 l.tasks
