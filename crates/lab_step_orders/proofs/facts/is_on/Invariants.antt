use Rattle.std.proofs.Common.{◌≡◌}
use Rattle.lab_step_orders.specs.Facts.{any_below, is_one_on}
use Rattle.lab_step_orders.specs.Moments.{shared_of}
use Rattle.lab_step_orders.proofs.facts.is_on.Given as goal

abbrev pub invariant-loop-caller : goal.invariant-loop-caller
invariant-loop-caller l = l.is ≡ any_below (is_one_on l.crew l.stage (shared_of l.gate)) l.caller
