use Rattle.std.proofs.Common.{◌≢◌, All, take}
use Rattle.std.specs.Prelude.{string_bytes}
use Rattle.lab_orders.proofs.tallies.place_of.Given as goal

abbrev pub invariant-loop-i : goal.invariant-loop-i
invariant-loop-i l = All (λ tally. string_bytes tally.told ≢ l.told) (take l.i l.tallies)
