use Rattle.std.proofs.Common.{◌≡◌, All}
use Rattle.test_core.proofs.callers.phases.answers.Given as goal

abbrev pub invariant-loop-number : goal.invariant-loop-number
invariant-loop-number g l = All (λ c. c.machine ≡ l.machine) l.callers.items
