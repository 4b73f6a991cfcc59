use Rattle.std.proofs.Common.{ℕ, ◌≤◌}
use Rattle.lab_schedules.specs.Bounds.{demand}
use Rattle.lab_schedules.proofs.loads.response_of.Given as goal

abbrev pub invariant-loop : goal.invariant-loop
invariant-loop l = (other : ℕ) → demand other l.own l.loads ≤ other → l.time ≤ other
