use Rattle.std.proofs.Common.{◌≡◌}
use Rattle.std.specs.Prelude.{All, length, ◌+◌}
use Rattle.test_hosts.proofs.runs.callers_of.Given as goal

abbrev pub invariant-loop-hand : goal.invariant-loop-hand
invariant-loop-hand g l =
    All (λ c. c.machine ≡ l.machine) l.callers.items
    × All (λ h. h.caller.machine ≡ l.machine) l.hand-iterator.rest.items
    × (length l.callers.items + length l.hand-iterator.rest.items ≡ length l.fn.hands.items)
