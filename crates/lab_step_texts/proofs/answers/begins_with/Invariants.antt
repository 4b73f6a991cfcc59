use Rattle.std.proofs.Common.{◌≡◌, drop, map}
use Rattle.std.specs.List.{list_any}
use Rattle.lab_scenario_orders.specs.Asks.{begins}
use Rattle.lab_step_texts.proofs.answers.begins_with.Given as goal

abbrev pub invariant-loop-front : goal.invariant-loop-front
invariant-loop-front l =
    list_any (λ front. begins front l.text) (map (λ word. word.now) (drop l.front-index l.fronts)) ≡ list_any (λ front. begins front l.text) (map (λ word. word.now) l.fronts)
