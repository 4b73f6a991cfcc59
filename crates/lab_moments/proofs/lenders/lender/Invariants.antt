use Rattle.std.proofs.Common.{◌≡◌}
use Rattle.lab_moments.specs.Standings.{lender_below}
use Rattle.lab_moments.proofs.lenders.lender.Given as goal

abbrev pub invariant-loop-from : goal.invariant-loop-from
invariant-loop-from g l = l.first ≡ lender_below l.kernel.history.state l.thread l.rank l.from
