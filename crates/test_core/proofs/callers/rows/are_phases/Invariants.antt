use Rattle.std.proofs.Common.{◌≡◌, All}
use Rattle.test_core.proofs.callers.rows.are_phases.Given as goal

abbrev pub invariant-loop-phase : goal.invariant-loop-phase
invariant-loop-phase g l = All (λ c. c.machine ≡ l.machine) l.callers.items
