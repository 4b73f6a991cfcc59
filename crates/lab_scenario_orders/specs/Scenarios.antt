-- An order as a scenario.
use Rattle.std.specs.Prelude.{ℕ, ◌+◌, List, [], ◌∷◌, ◌++◌, Option, Some, None, map, slice_index, slice_set}
use Rattle.evl_scenario.specs.Scenarios.{Script}
use Rattle.evl_scenario.specs.Writings.{scenario_text}
use Rattle.evl_scenario.specs.declared.steps.Step.{Step}
use Rattle.lab_scenario_orders.specs.Callers.{next_step}
use Rattle.lab_scenario_orders.specs.declared.callers.Callers.{Callers}

-- the step before the others, if there is one
abbrev pub steps_before : Option Step → List Step → List Step
steps_before None steps = steps
steps_before (Some step) steps = step ∷ steps

-- the steps that the callers of an order make, each its next one, where they have made so many
abbrev pub steps_along : Callers → List ℕ → List ℕ → List Step
steps_along c made [] = []
steps_along c made (n ∷ order) = steps_before (next_step c n (slice_index made n)) (steps_along c (slice_set made n (slice_index made n + 1)) order)

-- what is set up, and then the callers' steps in that order
abbrev pub order_script : Callers → List ℕ → Script
order_script c order = record {
  board = c.board;
  limit = c.limit;
  steps = c.setup.items ++ steps_along c (map (λ caller. 0) c.callers.items) order;
}

abbrev pub order_scenario : Callers → List ℕ → List ℕ
order_scenario c order = scenario_text (order_script c order)
