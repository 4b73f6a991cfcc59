use Rattle.std.proofs.Common.{◌≡◌, drop}
use Rattle.lab_scenario_orders.specs.Claims.{first_lacked}
use Rattle.lab_scenario_orders.proofs.claims.first_lacked.Given as goal

abbrev pub invariant-loop-claim : goal.invariant-loop-claim
invariant-loop-claim l = first_lacked l.board (drop l.claim-index l.claims) ≡ first_lacked l.board l.claims
