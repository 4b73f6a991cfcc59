-- Sums over nodes, where one of them is led to by more orders.
use Rattle.std.proofs.Common.{◌≡◌, ℕ, ◌+◌, ◌*◌, List, get_or, length, ap, subst, arith}
use Rattle.std.specs.Prelude.{◌<◌, Some, slice_get, slice_set, sum_by}
use Rattle.std.proofs.lemmas.List.Sums.{sum_by-set}
use Rattle.std.proofs.lemmas.List.Elements.{All-set, All-get_or}
use Rattle.std.proofs.lemmas.Option.{slice_get_within, get_or_from_slice_get}
use Rattle.lab_orders.specs.Machines.{Machine}
use Rattle.lab_orders.specs.Weights.{weight}
use Rattle.lab_orders.specs.Fronts.{AreFit, AreLong, IsLed, AreLed}
use Rattle.lab_orders.specs.declared.nodes.Node.{Node}

-- a node with more orders
abbrev pub raised : {M : Type 0} → Node M → ℕ → Node M
raised node more = record node { count = node.count + more }

pub weight_raised : {M S : Type 0} (state : M → S) (f : S → ℕ) (nodes : List (Node M)) (i more : ℕ) (node : Node M)
    → slice_get nodes i ≡ Some node → weight state f (slice_set nodes i (raised node more)) ≡ weight state f nodes + more * f (state node.at)
weight_raised {M} state f nodes i more node e =
    let g : Node M → ℕ = λ n. n.count * f (state n.at) in
    let there : get_or nodes i node ≡ node = get_or_from_slice_get nodes i node node e in
    let same : g (get_or nodes i node) ≡ g node = ap g there in
    let sums : sum_by g (slice_set nodes i (raised node more)) + g (get_or nodes i node) ≡ sum_by g nodes + g (raised node more) =
    sum_by-set g nodes i (raised node more) node (slice_get_within nodes i node e) in
    omega (arith, same, sums)

pub led_raised : {M S : Type 0} (m : Machine S) (state : M → S) (s : S) (nodes : List (Node M)) (i more : ℕ) (node : Node M)
    → slice_get nodes i ≡ Some node → AreLed m state s nodes → AreLed m state s (slice_set nodes i (raised node more))
led_raised {M} m state s nodes i more node e all =
    let P : Node M → Type 0 = λ n. IsLed m state s n in
    let there : get_or nodes i node ≡ node = get_or_from_slice_get nodes i node node e in
    let one : P node = subst P there (All-get_or P nodes i node (slice_get_within nodes i node e) all) in
    All-set P nodes i (raised node more) one all

pub fit_raised : {M : Type 0} (fits : M → Type 0) (nodes : List (Node M)) (i more : ℕ) (node : Node M)
    → slice_get nodes i ≡ Some node → AreFit fits nodes → AreFit fits (slice_set nodes i (raised node more))
fit_raised {M} fits nodes i more node e fit =
    let P : Node M → Type 0 = λ n. fits n.at × (0 < n.count) in
    let there : get_or nodes i node ≡ node = get_or_from_slice_get nodes i node node e in
    let one : P node = subst P there (All-get_or P nodes i node (slice_get_within nodes i node e) fit) in
    All-set P nodes i (raised node more) (one.0, omega (arith, one.1)) fit

pub long_raised : {M : Type 0} (k : ℕ) (nodes : List (Node M)) (i more : ℕ) (node : Node M)
    → slice_get nodes i ≡ Some node → AreLong k nodes → AreLong k (slice_set nodes i (raised node more))
long_raised {M} k nodes i more node e long =
    let P : Node M → Type 0 = λ n. length n.order.items ≡ k in
    let there : get_or nodes i node ≡ node = get_or_from_slice_get nodes i node node e in
    All-set P nodes i (raised node more) (subst P there (All-get_or P nodes i node (slice_get_within nodes i node e) long)) long
