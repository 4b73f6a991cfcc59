use Rattle.std.proofs.Common.{◌≡◌}
use Rattle.std.specs.Prelude.{All}
use Rattle.test_hosts.proofs.races.players_of.Given as goal

abbrev pub invariant-loop-caller : goal.invariant-loop-caller
invariant-loop-caller g l =
    All (λ p. p.caller.machine ≡ l.machine) l.players.items × All (λ c. c.machine ≡ l.machine) l.caller-iterator.rest.items
