use Rattle.std.proofs.Common.{◌≡◌, ◌++◌, None, drop, map}
use Rattle.lab_step_orders.proofs.moments.no_waits.Given as goal

abbrev pub invariant-loop-caller : goal.invariant-loop-caller
invariant-loop-caller l = l.waits.items ++ map (λ caller. None) (drop l._caller-index l.callers) ≡ map (λ caller. None) l.callers
