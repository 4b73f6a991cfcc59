use Rattle.std.proofs.Common.{◌≡◌, All}
use Rattle.test_core.proofs.callers.refused_rows.refusals.Given as goal

abbrev pub invariant-loop-step : goal.invariant-loop-step
invariant-loop-step g l = All (λ c. c.machine ≡ l.machine) l.callers.items
