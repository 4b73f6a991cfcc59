use Rattle.std.proofs.Common.{◌≡◌, ◌++◌}
use Rattle.std.specs.Prelude.{string_bytes}
use Rattle.lab_step_orders.specs.Told.{lines_below, resting_line}
use Rattle.lab_step_orders.proofs.told.put_resting.Given as goal

abbrev pub invariant-loop-caller : goal.invariant-loop-caller
invariant-loop-caller g l = string_bytes l.text ≡ string_bytes l.initial.text ++ lines_below (resting_line l.crew l.moment.made.items l.moment.waits.items l.kernel.history.state) l.caller
