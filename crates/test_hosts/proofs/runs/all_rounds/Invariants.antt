use Rattle.std.proofs.Common.{◌≡◌}
use Rattle.std.specs.Prelude.{All, length}
use Rattle.test_hosts.proofs.runs.all_rounds.Given as goal

abbrev pub invariant-loop : goal.invariant-loop
invariant-loop g l = All (λ h. h.caller.machine ≡ l.machine) l.hands.items × (length l.hands.items ≡ length l.fn.hands.items)
