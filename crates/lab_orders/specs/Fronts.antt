-- How far a world was gone through.
use Rattle.std.specs.Prelude.{ℕ, ◌≡◌, ◌≢◌, ◌+◌, ◌*◌, ◌<◌, ◌≤◌, true, List, [], length, All, AllPairs, Some, map, min, slice_index_or, sum_by}
use Rattle.lab_orders.specs.Machines.{Machine, led_along, is_over, runs, orders}
use Rattle.lab_orders.specs.Weights.{total, weight, ahead_by, ahead, at_end}
use Rattle.lab_orders.specs.declared.nodes.Node.{Node}

-- each node's moment is one of the world, and orders lead to it
abbrev pub AreFit : {M : Type 0} → (M → Type 0) → List (Node M) → Type 0
AreFit fits nodes = All (λ node. fits node.at × (0 < node.count)) nodes

-- a node's order leads to its moment
abbrev pub IsLed : {M S : Type 0} → Machine S → (M → S) → S → Node M → Type 0
IsLed m state s node = led_along m s node.order.items ≡ Some (state node.at)

abbrev pub AreLed : {M S : Type 0} → Machine S → (M → S) → S → List (Node M) → Type 0
AreLed m state s nodes = All (λ node. IsLed m state s node) nodes

-- and nobody can make a step there
abbrev pub AreOver : {M S : Type 0} → Machine S → (M → S) → List (Node M) → Type 0
AreOver m state nodes = All (λ node. is_over m (state node.at) ≡ true) nodes

-- each node's order has so many steps
abbrev pub AreLong : {M : Type 0} → ℕ → List (Node M) → Type 0
AreLong k nodes = All (λ node. length node.order.items ≡ k) nodes

-- the nodes of shorter orders stand first, and each order has fewer steps than this
pub record AreShortest {M : Type 0} (steps : ℕ) (nodes : List (Node M)) : Type 0 where
  pub below : All (λ node. length node.order.items < steps) nodes
  pub rise : AllPairs (λ one other. length one.order.items ≤ length other.order.items) nodes

-- these nodes are where all runs of so many steps lead: each counts for as many of them as its count says
abbrev pub StandFor : {M S : Type 0} → Machine S → (M → S) → S → ℕ → List (Node M) → Type 0
StandFor {M} {S} m state s k nodes = (f : S → ℕ) → weight state f nodes ≡ total f (runs m s k)

-- Step by step so many steps were gone through, each from one node at least and from no more than `most`: so many nodes,
-- as far as a number of 64 bits counts.
pub record IsGone {M S : Type 0} (m : Machine S) (state : M → S) (s : S) (most steps moments : ℕ) : Type 0 where
  pub levels : List (List (Node M))
  pub each : length levels ≡ steps
  pub some : All (λ nodes. 0 < length nodes) levels
  pub few : All (λ nodes. length nodes ≤ most) levels
  pub stand : (k : ℕ) → k < steps → StandFor m state s k (slice_index_or levels k [])
  -- rule: Whatever number each state has, its sum over the ends, each as often as its count says, is that over all
  --   orders. The search is cut off only at the number of steps asked for, or where more than `most` runs have as many,
  --   and there is such a run; otherwise no order is longer.
  --   clauses: explore: cut, more, whole
  --   rows: all_merges_are_counted; what_is_cut_off_is_told
  pub counted : moments ≡ min (sum_by length levels) 18446744073709551615

-- no two of these nodes are at one state
abbrev pub states : {M S : Type 0} → (M → S) → List (Node M) → List S
states state nodes = map (λ node. state node.at) nodes

abbrev pub AreApart : {M S : Type 0} → (M → S) → List (Node M) → Type 0
AreApart state nodes = AllPairs (λ one other. one ≢ other) (states state nodes)

-- rule: If comparing is complete, no two moments of one number of steps are at one state: as many states as moments are
--   reported. It is complete for worlds that are tables; of kernels it isn't known, since memory may run out.
--   also: Levels.IsIndexed
--   clauses: explore: apart
--   rows: all_merges_are_counted
-- and no two nodes of one number of steps are
pub record GoesApart {M S : Type 0} (m : Machine S) (state : M → S) (s : S) (most steps moments : ℕ) : Type 0 where
  pub gone : IsGone m state s most steps moments
  pub apart : All (λ nodes. AreApart state nodes) gone.levels

-- new is old with the orders of a node, each with one step more by one of these callers
pub record AddsSteps {M S : Type 0} (m : Machine S) (state : M → S) (fits : M → Type 0) (node : Node M) (callers : List ℕ) (old new : List (Node M)) : Type 0 where
  pub fit : AreFit fits new
  pub sums : (f : S → ℕ) → weight state f new ≡ weight state f old + node.count * ahead_by m f (state node.at) callers
  pub led_there : (s : S) → IsLed m state s node → AreLed m state s old → AreLed m state s new
  pub longer : AreLong (length node.order.items + 1) old → AreLong (length node.order.items + 1) new

-- One step more of these nodes leads to the next ones; the ends that were known before grew by those in which nobody makes one.
pub record LeadsOn {M S : Type 0} (m : Machine S) (state : M → S) (fits : M → Type 0) (level next old new : List (Node M)) : Type 0 where
  pub fit : AreFit fits next
  pub sums : (f : S → ℕ) → weight state f next ≡ weight state (ahead m f) level
  pub ends : (f : S → ℕ) → weight state f new ≡ weight state f old + weight state (at_end m f) level
  pub led_there : (s : S) → AreLed m state s level → AreLed m state s next
  pub led_ends : (s : S) → AreLed m state s level → AreLed m state s old → AreLed m state s new
  -- rule: Each end is where its order leads, and nobody can step there. Each outcome is reported once, with exact sums.
  --   also: Fronts.sums
  --   clauses: explore; add_tally: distinct
  --   rows: ends_are_where_their_orders_lead; two_orders_of_puts_end_alike
  pub over : AreOver m state old → AreOver m state new
  pub longer : (k : ℕ) → AreLong k level → AreLong (k + 1) next
  pub shortest : (k : ℕ) → AreLong k level → AreShortest k old → AreShortest (k + 1) new

-- All orders of fewer steps from s end in these ends, and all runs of so many steps lead to these nodes.
pub record IsFront {M S : Type 0} (m : Machine S) (state : M → S) (fits : M → Type 0) (s : S) (steps : ℕ) (level ends : List (Node M)) : Type 0 where
  pub fit : AreFit fits level
  pub reached : StandFor m state s steps level
  pub counted : (f : S → ℕ) → weight state f ends ≡ total f (orders m s steps)
  pub led_there : AreLed m state s level
  pub led_ends : AreLed m state s ends
  pub over : AreOver m state ends
  pub long : AreLong steps level
  pub shortest : AreShortest steps ends
