use Rattle.std.proofs.Common.{◌≡◌, ◌++◌, drop}
use Rattle.lab_asks.specs.Outcomes.{callers_answers}
use Rattle.lab_asks.proofs.answers.put_callers.Given as goal

abbrev pub invariant-loop-caller : goal.invariant-loop-caller
invariant-loop-caller l = l.text.items ++ callers_answers l.outcomes (drop l.caller-index l.callers) ≡ l.initial.text.items ++ callers_answers l.outcomes l.callers
