use Rattle.std.proofs.Common.{◌≡◌, ◌++◌, drop}
use Rattle.lab_asks.specs.StepOrders.{callers_answers}
use Rattle.lab_asks.proofs.step_answers.put_callers.Given as goal

abbrev pub invariant-loop-number : goal.invariant-loop-number
invariant-loop-number l = l.text.items ++ callers_answers l.outcomes l.number (drop l.number l.callers) ≡ l.initial.text.items ++ callers_answers l.outcomes 0 l.callers
