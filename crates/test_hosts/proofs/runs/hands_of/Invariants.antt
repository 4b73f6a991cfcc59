use Rattle.std.proofs.Common.{◌≡◌}
use Rattle.std.specs.Prelude.{All, length, ◌+◌}
use Rattle.test_hosts.proofs.runs.hands_of.Given as goal

abbrev pub invariant-loop-caller : goal.invariant-loop-caller
invariant-loop-caller g l =
    All (λ h. h.caller.machine ≡ l.machine) l.hands.items
    × All (λ c. c.machine ≡ l.machine) l.caller-iterator.rest.items
    × (length l.hands.items + length l.caller-iterator.rest.items ≡ length l.fn.callers.items)
