use Rattle.std.proofs.Common.{◌≡◌, take}
use Rattle.std.specs.Prelude.{sum_by}
use Rattle.lab_step_orders.proofs.outcomes.count_of.Given as goal

abbrev pub invariant-loop-end : goal.invariant-loop-end
invariant-loop-end l = l.count ≡ sum_by (λ end. end.count) (take l.end-index l.ends)
