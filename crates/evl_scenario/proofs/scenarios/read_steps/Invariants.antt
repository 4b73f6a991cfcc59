use Rattle.std.proofs.Common.{◌≡◌, ◌+◌, drop}
use Rattle.toml.specs.View.{items_view}
use Rattle.evl_scenario.specs.Scenarios.{steps_of}
use Rattle.evl_scenario.proofs.StepLemmas.{after_steps}
use Rattle.evl_scenario.proofs.scenarios.read_steps.Given as goal

abbrev pub invariant-loop-i : goal.invariant-loop-i
invariant-loop-i l = after_steps l.steps.items (steps_of (l.i + 1) (items_view (drop l.i l.values))) ≡ steps_of 1 (items_view l.values)
