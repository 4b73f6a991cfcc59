use Rattle.std.proofs.Common.{◌≡◌, ◌++◌, drop, map}
use Rattle.lab_step_orders.specs.declared.steps.Place.TheVariants.{Begins}
use Rattle.lab_step_orders.proofs.moments.all_begin.Given as goal

abbrev pub invariant-loop-caller : goal.invariant-loop-caller
invariant-loop-caller l = l.places.items ++ map (λ caller. Begins) (drop l._caller-index l.callers) ≡ map (λ caller. Begins) l.callers
