use Rattle.std.proofs.Common.{◌≡◌, drop}
use Rattle.lab_scenario_orders.specs.Answers.{is_possible}
use Rattle.lab_scenario_orders.proofs.answers.is_possible.Given as goal

abbrev pub invariant-loop-step : goal.invariant-loop-step
invariant-loop-step l = is_possible (drop l.step-index l.steps) l.who l.answer ≡ is_possible l.steps l.who l.answer
