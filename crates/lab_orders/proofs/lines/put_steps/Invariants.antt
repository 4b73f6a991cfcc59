use Rattle.std.proofs.Common.{◌≡◌, ◌++◌}
use Rattle.lab_orders.specs.Answers.{step_lines}
use Rattle.lab_orders.specs.Seen.{seen_rows}
use Rattle.lab_orders.proofs.lines.put_steps.Given as goal

abbrev pub invariant-loop-step : goal.invariant-loop-step
invariant-loop-step l = l.text.items ≡ l.initial.text.items ++ step_lines l.who (seen_rows l.rows) l.step
