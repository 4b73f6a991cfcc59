use Rattle.std.proofs.Common.{◌≡◌, ◌++◌, drop, map}
use Rattle.lab_step_orders.proofs.moments.none_made.Given as goal

abbrev pub invariant-loop-caller : goal.invariant-loop-caller
invariant-loop-caller l = l.made.items ++ map (λ caller. 0) (drop l._caller-index l.callers) ≡ map (λ caller. 0) l.callers
