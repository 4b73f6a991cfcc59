use Rattle.std.proofs.Common.{◌≡◌, drop, false}
use Rattle.lab_schedules.specs.Bounds.{ends_computing}
use Rattle.lab_schedules.proofs.bounds.ends_computing.Given as goal

abbrev pub invariant-loop-act : goal.invariant-loop-act
invariant-loop-act l = ends_computing l.last (drop l.act-index l.is.does.items) ≡ ends_computing false l.is.does.items
