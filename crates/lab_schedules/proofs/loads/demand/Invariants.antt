use Rattle.std.proofs.Common.{◌≡◌, drop}
use Rattle.lab_schedules.specs.Bounds.{demand}
use Rattle.lab_schedules.proofs.loads.demand.Given as goal

abbrev pub invariant-loop-load : goal.invariant-loop-load
invariant-loop-load l = demand l.time l.sum (drop l.load-index l.loads) ≡ demand l.time l.own l.loads
