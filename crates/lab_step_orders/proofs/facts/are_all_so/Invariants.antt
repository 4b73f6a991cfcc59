use Rattle.std.proofs.Common.{◌≡◌, drop}
use Rattle.lab_step_orders.specs.Facts.{are_all_so}
use Rattle.lab_step_orders.specs.Moments.{seen_of}
use Rattle.lab_step_orders.proofs.facts.are_all_so.Given as goal

abbrev pub invariant-loop-claim : goal.invariant-loop-claim
invariant-loop-claim l = are_all_so l.crew (seen_of l.crew l.moment) (drop l.claim-index l.claims) ≡ are_all_so l.crew (seen_of l.crew l.moment) l.claims
