use Rattle.std.proofs.Common.{◌≡◌, ◌++◌, drop}
use Rattle.lab_orders.specs.Answers.{rows_of}
use Rattle.lab_orders.specs.Seen.{seen_rows}
use Rattle.lab_orders.proofs.counts.rows_of.Given as goal

abbrev pub invariant-loop-outcome : goal.invariant-loop-outcome
invariant-loop-outcome l = seen_rows l.all.items ++ rows_of l.who (drop l.outcome-index l.outcomes) ≡ rows_of l.who l.outcomes
