use Rattle.std.proofs.Common.{◌≡◌, ◌++◌}
use Rattle.std.specs.Prelude.{string_bytes}
use Rattle.lab_step_orders.specs.Told.{lines_below}
use Rattle.lab_step_orders.proofs.told.put_lines.Given as goal

abbrev pub invariant-loop-number : goal.invariant-loop-number
invariant-loop-number g l = string_bytes l.text ≡ string_bytes l.initial.text ++ lines_below (g.L.Lines.line l.lines) l.number
