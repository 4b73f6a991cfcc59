use Rattle.std.proofs.Common.{◌≡◌, drop}
use Rattle.lab_scenario_orders.specs.Facts.{are_all_so}
use Rattle.lab_scenario_orders.proofs.facts.are_all_so.Given as goal

abbrev pub invariant-loop-claim : goal.invariant-loop-claim
invariant-loop-claim g l = are_all_so l.kernel.history.state (drop l.claim-index l.claims) ≡ are_all_so l.kernel.history.state l.claims
