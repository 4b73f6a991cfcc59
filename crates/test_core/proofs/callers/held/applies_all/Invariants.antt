use Rattle.std.proofs.Common.{◌≡◌}
use Rattle.test_core.proofs.callers.held.applies_all.Given as goal

abbrev pub invariant-loop-step : goal.invariant-loop-step
invariant-loop-step g l = l.held.caller ≡ l.fn.held.caller
