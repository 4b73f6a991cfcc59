-- Numbers of states, summed over runs and over nodes.
use Rattle.std.specs.Prelude.{ℕ, ◌*◌, ◌^◌, List, cond, sum_by}
use Rattle.std.specs.Option.{option_map_or}
use Rattle.lab_orders.specs.Machines.{Machine, Run, numbers_below, is_over}
use Rattle.lab_orders.specs.declared.nodes.Node.{Node}

-- over runs: where f is 1 at the states of some kind and 0 elsewhere, this is how many of the runs lead to such a state
abbrev pub total : {S : Type 0} → (S → ℕ) → List (Run S) → ℕ
total f rs = sum_by (λ r. f r.at) rs

-- over nodes, each as often as orders lead to it
abbrev pub weight : {M S : Type 0} → (M → S) → (S → ℕ) → List (Node M) → ℕ
weight state f nodes = sum_by (λ node. node.count * f (state node.at)) nodes

-- over the states that are reached by one step, by these callers or by any
abbrev pub ahead_by : {S : Type 0} → Machine S → (S → ℕ) → S → List ℕ → ℕ
ahead_by m f s callers = sum_by (λ c. option_map_or f (m.go s c) 0) callers

abbrev pub ahead : {S : Type 0} → Machine S → (S → ℕ) → S → ℕ
ahead m f s = ahead_by m f s (numbers_below m.callers)

-- more orders than this less one no count holds
abbrev pub count_limit : ℕ
count_limit = 2 ^ 128

-- at the states in which nobody can make a step
abbrev pub at_end : {S : Type 0} → Machine S → (S → ℕ) → S → ℕ
at_end m f s = cond (is_over m s) (f s) 0
