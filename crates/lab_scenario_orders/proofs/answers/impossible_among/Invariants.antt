use Rattle.std.proofs.Common.{◌≡◌, drop}
use Rattle.lab_scenario_orders.specs.Answers.{first_impossible}
use Rattle.lab_scenario_orders.proofs.answers.impossible_among.Given as goal

abbrev pub invariant-loop-one : goal.invariant-loop-one
invariant-loop-one l = first_impossible l.steps (drop l.one-index l.never) ≡ first_impossible l.steps l.never
